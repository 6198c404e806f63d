-- The words that name files, layers and fields.
use Rattle.std.specs.Prelude.{ℕ, List, codes}
use Rattle.words.specs.declared.fault.File.{File}
use Rattle.words.specs.declared.fault.File.TheVariants as file
use Rattle.words.specs.declared.line.Field.{Field}
use Rattle.words.specs.declared.line.Field.TheVariants as field
use Rattle.words.specs.declared.refusal.Layer.{Layer}
use Rattle.words.specs.declared.refusal.Layer.TheVariants as layer

-- the word for the file that a fault names, or for the writing
abbrev pub file_name : File → List ℕ
file_name file.Formula = codes "formula"
file_name file.Trace = codes "trace"
file_name file.Write = codes "write"

-- the word for a layer
abbrev pub layer_name : Layer → List ℕ
layer_name layer.Open = codes "open"
layer_name layer.File = codes "file"
layer_name layer.Formula = codes "formula"
layer_name layer.Load = codes "load"
layer_name layer.Trace = codes "trace"
layer_name layer.Submit = codes "submit"
layer_name layer.Rule = codes "rule"
layer_name layer.Shelf = codes "shelf"
layer_name layer.Roll = codes "roll"
layer_name layer.Restore = codes "restore"
layer_name layer.Write = codes "write"

-- the word for a field of a line
abbrev pub field_name : Field → List ℕ
field_name field.Kind = codes "kind"
field_name field.Clause = codes "clause"
field_name field.Pivot = codes "pivot"
field_name field.First = codes "first"
field_name field.Second = codes "second"
