-- What a block is to its callers, and what the calls make of its words.
use Rattle.std.specs.Prelude.{ℕ, ◌+◌, List, [], ◌++◌, take, drop, replicate}

-- Some words, the number of words that there is room for, and a number for the crate above.
pub record Contents : Type 0 where
  pub words : List ℕ
  pub capacity : ℕ
  pub tag : ℕ

-- A new block: no words, and the tag 0.
abbrev pub empty_block : ℕ → Contents
empty_block capacity = record { words = []; capacity = capacity; tag = 0 }

-- The first i words, n zeros, the rest.
abbrev pub with_gap : ℕ → ℕ → List ℕ → List ℕ
with_gap i n words = take i words ++ (replicate n 0 ++ drop i words)

-- The words without the n from the i-th on, counted from 0.
abbrev pub without_gap : ℕ → ℕ → List ℕ → List ℕ
without_gap i n words = take i words ++ drop (i + n) words
