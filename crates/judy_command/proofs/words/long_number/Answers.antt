use Rattle.std.proofs.Common.{◌&&◌, ◌^◌, nat_lt, take, get_or, sym, ◌∙◌, refl}
use Rattle.std.specs.List.{list_all}
use Rattle.std.specs.Char.{is_ascii_digit}
use Rattle.std.specs.Str.Parse.{digits_value}
use Rattle.judy_command.proofs.Numerals.{failed, passed, longer, inside, no_word, last_digit}
use Rattle.judy_command.proofs.words.long_number.Goals as goal

pub returns-in_err-front : goal.returns-in_err-front
returns-in_err-front c =
    let token = c.args.digits.now in
    let not = failed (list_all is_ascii_digit (take 19 token)) (digits_value 10 (take 19 token)) c.short_number.result c.short_number.ensures c.in_err-front.was in
    c.from_residual.ensures ∙ sym (no_word token c.requires not)

pub returns : goal.returns
returns c =
    let token = c.args.digits.now in
    let front = passed (list_all is_ascii_digit (take 19 token)) (digits_value 10 (take 19 token)) c.in_ok-front.front c.short_number.result c.short_number.ensures c.in_ok-front.was in
    rw front.1 at c.with_digit.ensures ∙ last_digit token c.requires front.0 (is_ascii_digit (get_or token 19 0) && nat_lt (longer token 19 (inside token c.requires)) (2 ^ 64)) refl
