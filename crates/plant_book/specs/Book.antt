-- What contracts see of a book.
use Rattle.std.specs.Prelude.{ℕ, List}
use Rattle.plant_book.specs.declared.book.Entry.{Entry}
use Rattle.plant_book.specs.Site.{SiteRecord}

-- a site, a start moment, and the calls with their replies in order
pub record BookRecord : Type 0 where
  pub site : SiteRecord
  pub start : ℕ
  pub entries : List Entry
