-- What a line is refused for, which words are commands, where a script is cut, how a key is printed; what two maps have
-- together, what is kept of one, ranges of words, and what begins a byte string.
pub mod TooLongLines
pub mod CommandNameLemmas
pub mod ClosedLines
pub mod PrintedKeys
pub mod Parts
pub mod Joins
pub mod WordRanges
pub mod PrefixLemmas
pub mod JoinsOfPairs
