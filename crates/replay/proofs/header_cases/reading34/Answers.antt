-- `header_cases::reading34` is safe: no number of a reading is a NaN, so its bits may be asked for. Assumes nothing.
use Rattle.time_reading.specs.LawsExact.{no_nan_in}
use Rattle.replay.proofs.header_cases.reading34.Goals as goal

pub put_reading-requires : goal.put_reading-requires
put_reading-requires c = no_nan_in _ _ _ c.time_reading_v3v4-seconds.ensures
