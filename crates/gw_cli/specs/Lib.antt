-- What the program's functions promise of the arguments of the command line.
pub mod Asked
