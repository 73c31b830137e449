-- An entry's promise is made of this.
-- What each case of what is found tells.
use Rattle.checks.specs.Shown.{Found, Empty, text_from_to}
use Rattle.seek.specs.declared.Found as code

abbrev pub found_told : code.Found → Found
found_told code.TheVariants.Empty = Empty
found_told (code.TheVariants.Text s) = text_from_to s.start s.end
