-- What a loading session means.
use Rattle.std.specs.Prelude.{ℕ}
use Rattle.loading.specs.declared.Loading.{Loading}

-- how many variables the formula has
abbrev pub formula_variables : Loading → ℕ
formula_variables s = s.variables

-- how many lists were accepted, which is the highest clause number given so far
abbrev pub loaded_count : Loading → ℕ
loaded_count s = s.loaded
