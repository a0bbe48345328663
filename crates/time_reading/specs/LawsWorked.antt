-- Bits of distances, computed: of the counts of document 02, request (ii), of the least delay and of the largest counts; and the
-- same three of the header of NTPv3 and NTPv4.
use Rattle.std.specs.Prelude.{◌≡◌, refl}
use Rattle.std.specs.Float.{binary64}
use Rattle.std.specs.Float.Ieee.{to_bits, round}
use Rattle.time_units.specs.Meant.{fraction}
use Rattle.time_reading.specs.Meant.{reading_of}

-- a delay of one second and a dispersion of half a second: 1 s, where the whole delay gave 1.5 s
pub distance_of_one_second : to_bits binary64 (reading_of 28 0x10000000 0x08000000).distance_seconds ≡ 0x3FF0_0000_0000_0000
unfolding reading_of fraction to_bits round
distance_of_one_second = refl

-- the least delay: half of it is 2^-29 s, and is not lost
pub half_of_the_least : to_bits binary64 (reading_of 28 1 0).distance_seconds ≡ 0x3E20_0000_0000_0000
unfolding reading_of fraction to_bits round
half_of_the_least = refl

-- the largest counts: delay + 2 * dispersion has 34 digits, and none is lost
pub most : to_bits binary64 (reading_of 28 0xFFFF_FFFF 0xFFFF_FFFF).distance_seconds ≡ 0x4037_FFFF_FFE8_0000
unfolding reading_of fraction to_bits round
most = refl

-- the same times in counts of 2^-16 s have the same distance
pub older_distance_of_one_second : to_bits binary64 (reading_of 16 0x10000 0x8000).distance_seconds ≡ 0x3FF0_0000_0000_0000
unfolding reading_of fraction to_bits round
older_distance_of_one_second = refl

-- half of its least delay is 2^-17 s
pub half_of_the_older_least : to_bits binary64 (reading_of 16 1 0).distance_seconds ≡ 0x3EE0_0000_0000_0000
unfolding reading_of fraction to_bits round
half_of_the_older_least = refl

-- its largest counts
pub older_most : to_bits binary64 (reading_of 16 0xFFFF_FFFF 0xFFFF_FFFF).distance_seconds ≡ 0x40F7_FFFF_FFE8_0000
unfolding reading_of fraction to_bits round
older_most = refl
