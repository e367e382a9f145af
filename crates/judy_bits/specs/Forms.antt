-- The form of a set of bytes. (This project's own; the limits are those of a branch's children in judy_model's Forms.antt.)
use Rattle.std.specs.Prelude.{ℕ, nat_le, if◌then◌else◌}
use Rattle.judy_bits.specs.declared.form.SetForm.{SetForm}
use Rattle.judy_bits.specs.declared.form.SetForm.TheVariants.{Linear, Bitmap, Full}

-- It is linear for up to 7 members, a bitmap for 8 to 127, and full from 128 on.
abbrev pub form_of : ℕ → SetForm
form_of count = if nat_le count 7 then Linear else (if nat_le count 127 then Bitmap else Full)
