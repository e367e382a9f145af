-- The array over byte strings that a handle stands for: where it holds none, the empty one that may hold the most keys.
use Rattle.judy_c.specs.declared.bytes.Bytes.{Bytes}
use Rattle.judy_c.specs.StringMaps.{array_of}
use Rattle.judy_model.specs.Keys.{byte_order}
use Rattle.judy_model.specs.Arrays.{ArrayOf}

abbrev pub array_in : Bytes → ArrayOf byte_order
array_in handle = array_of handle.array
