-- The lemmas. The proofs by hand stand in cells/, a file for each function that reaches the pointer; how to read one:
--
-- It follows the compiled function statement by statement. At each point there is a list of what is owned, whose entries
-- count from 0, with the function's locals at its end, and the code that is left. A comment in square brackets says what is
-- owned there, from the head of the list on; one in backquotes names the Rust that the next steps run.
--     split, fsplit, split3, fsplit3, join, fjoin, group   take an entry apart, or put entries together
--     move, keep, drop                     bring entries to the head; keep those alone; let the head go
--     use0, use1, use2 𝓛 new by            the first so many entries become `new`, by a lemma
--     rewrite, regoal                      rewrite an entry or the goal by an equation
--     feq_i, flt_i, nothing, feq_l, flt_l, heard   put in an equation, a bound or nothing; learn one
--     sets, sets_last, assigns_last        an assignment;  calls_at, calls_at_last, lands_as, lands_last   a call and its result
--     first, blocks, branches, switches_on, loops, skips, jumps    go into a statement, a block, an arm, a loop;  exec names the code that is left
--     opens, peeks, in_a_block             open what a `&mut` lends; learn a value's bits; learn that a pointer isn't null
--     returns, free_all, ends_at, leaves   the return: the locals go, and what is left has to be what the contract says
pub mod Cutting
pub mod Gaps
pub mod Inserts
pub mod Sharing
pub mod Values
pub mod Writes
