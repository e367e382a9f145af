-- A shared borrow of `Cells` reaches each word. Assumes `Logic`.
use Rattle.std.specs.Prelude.{[]}
use base.Fml.{Incl-refl}
use denote.Param.Shared.{copy_shared}
use denote.Struct.Field.{RawPtr-field}
use denote.Struct.Laws.{RawPtr-copy}
use denote.Struct.Lending.{of_Lends}
use Rattle.judy_block.specs.contracts.cells.Cells as C
use Rattle.judy_block.proofs.cells.Cells.TheLaw.Statement.{statement}
use Rattle.judy_block.proofs.Sharing.{words_lent_laws, Lends-words}

pub shares : statement
shares = of_Lends C.struct C.the_codes C.the_heap C.the_lent
    (λ d p. words_lent_laws d.head d.items) (copy_shared RawPtr-field RawPtr-copy, tt)
    (λ M 𝓤 𝓛 d p. Lends-words 𝓛 C.the_row.lives (Incl-refl []) d.head d.items)
