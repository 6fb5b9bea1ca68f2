-- What is true of every life whose last book the ledger keeps.
use Rattle.plant_book.specs.Part.{PartRecord}
use Rattle.plant_book.specs.Carry.{EachBook}
use Rattle.plant_book.proofs.Lowered.{under_ceiling, back_under_cap}
use Rattle.plant_book.proofs.Device.{covers_held}
use Rattle.plant_book.proofs.Safe.{safe_life}
use Rattle.plant_book.proofs.Tight.{tight}
use Rattle.plant_ledger.specs.Plant.{IsSound}

pub kept_sound : (part : PartRecord) → EachBook part IsSound
kept_sound part before is = record {
  capped = under_ceiling _ is.book;
  back = back_under_cap _ is.book;
  covered = covers_held _;
  safe = λ past its_past. safe_life _ past is.book its_past;
  tight = tight _ is.book;
}
