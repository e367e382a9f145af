-- `held` lends a Strings as what it holds: the same pointer, with the same behind it. Assumes `Logic`.
use base.Logic.{id⊢}
use denote.Memory.{part_of}
use Rattle.judy_sl.specs.Rows.{long_strings_row as Array}
use Rattle.judy_c.proofs.HandleCasts.{casts}
use Rattle.judy_c.specs.AsHeld.{held_by_strings, as_strings}
use Rattle.judy_c.specs.contracts.strings.Strings.{the_row as Handle}
use Rattle.judy_c.specs.contracts.handles.StringsHandle.held.Key.{name}
use Rattle.judy_c.proofs.handles.StringsHandle.held.Statement.{statement}
use Rattle.judy_c.proofs.handles.StringsHandle.held.Code as code

pub held_spec : {M : Type 1} → statement M
unfolding part_of
held_spec 𝓤 𝓛 𝓜 𝓡 wired =
    casts Handle Array tt 𝓤 𝓛 (record { cast = held_by_strings; back = as_strings; out = λ d b o. id⊢ 𝓤 _; into = λ x b o. id⊢ 𝓤 _ }) _ _ _ _ 𝓜 𝓡 name (code.unfolded 𝓤 𝓛.H 𝓜 𝓡 wired)
