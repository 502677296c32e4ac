-- What the fields of a book stand for: the parts, and the standing sessions, the newest first.
use Rattle.std.specs.Prelude.{List, reverse, slice_get}
use Rattle.arrayvec.specs.ArrayVec.{ArrayVec, array_vec_len}
use Rattle.reckoning.specs.declared.session.Session.{Session}
use Rattle.reckoning.specs.Parts.{Parts}
use Rattle.book.specs.declared.setting.Setting.{Setting}
use Rattle.book.specs.Sites.{ports_there, group_there}

abbrev pub parts_of : Setting → Parts
parts_of t =
    record {
      sites = array_vec_len t.sites;
      groups = t.groups;
      ports = λ s. ports_there (slice_get t.sites.items s);
      group = λ s. group_there t.groups (slice_get t.sites.items s);
      wavelengths = t.waves;
      plant_groups = t.span;
      dark = t.dark;
    }

abbrev pub standing : ArrayVec Session → List Session
standing rows = reverse rows.items
