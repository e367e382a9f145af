use Rattle.judy_hs.proofs.judyhs.JudyHs.group.Goals as goal

pub returns-in-Some-clause-short : goal.returns-in-Some-clause-short
returns-in-Some-clause-short g c = λ few. rw (c.array.ensures.map) (c.in-Some.ensures.short few)
