-- Formats of the code as the definitions see them.
use Rattle.judy_model.specs.DumpText as text
use Rattle.judy_shelf.specs.declared.version.Version.{Version}
use Rattle.judy_shelf.specs.declared.version.Version.TheVariants.{First, Second}

-- The format that a version is.
abbrev pub format_of : Version → text.Version
format_of First = text.jdy1
format_of Second = text.jdy2
