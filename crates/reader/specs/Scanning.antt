-- What a scanner stands before.
use Rattle.std.specs.Prelude.{List, []}
use Rattle.reader.specs.Tokens.{Part, words_on}
use Rattle.reader.specs.declared.scanner.Scanner.{Scanner}

-- the rest of the text
abbrev pub rest_of : Scanner → Part
rest_of s = record { line = s.line; bytes = s.rest.now }

-- the words to come
abbrev pub words_of : Scanner → List Part
words_of s = words_on s.line [] s.rest.now
