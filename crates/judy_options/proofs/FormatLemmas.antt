-- The number of a format that a text spells.
use Rattle.std.proofs.Common.{◌≡◌, ℕ, true, false, cond, refl, sym, ap, ◌∙◌}
use Rattle.std.specs.Str.Parse.{digits_value, without_leading_plus}
use Rattle.clap.specs.Words.{Accepts, Text}
use Rattle.clap.specs.ValueTests.{accepts}
use Rattle.clap.proofs.ValueTestLemmas.{accepts-Accepts, Accepts-accepts}
use Rattle.judy_options.specs.CommandLines.{format_of_text, format_parser}

-- A text that spells a format.
pub format_spelled : (text : Text) (number : ℕ) → number ≡ digits_value 10 (without_leading_plus text) → Accepts false format_parser text → number ≡ format_of_text text
format_spelled text number same is = same ∙ sym (ap (λ b. cond b (digits_value 10 (without_leading_plus text)) 1) (Accepts-accepts false format_parser text is))

-- A text that spells none.
pub no_format_spelled : (text : Text) → (Accepts false format_parser text → ⊥) → 1 ≡ format_of_text text
no_format_spelled text never = elim (accepts false format_parser text) as (λ b. accepts false format_parser text ≡ b → 1 ≡ cond b (digits_value 10 (without_leading_plus text)) 1) [
  | true ↦ λ is. absurd (never (accepts-Accepts false format_parser text is))
  | false ↦ λ isnt. refl
] refl
