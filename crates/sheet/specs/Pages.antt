-- A sheet as its caller sees it.
use Rattle.sheet.specs.declared.sheet.Sheet.{Sheet}
use Rattle.sheet.specs.Sheets.{Page}

abbrev pub page_of : {X : Type 0} → Sheet X → Page X
page_of s = record { memory = s.places.ghost_name; count = s.count; places = s.places.now }
