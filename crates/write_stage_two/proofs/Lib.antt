mod Sealed
