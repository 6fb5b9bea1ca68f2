-- Why a site opens no book, and the ticket that goes with a reply.
use Rattle.std.specs.Prelude.{nat_lt, ◌==◌, if◌then◌else◌, Option, Some, None}
use Rattle.plant_book.specs.declared.call.Reply.{Reply}
use Rattle.plant_book.specs.declared.call.Reply.TheVariants as replies
use Rattle.plant_book.specs.declared.call.Write as writes
use Rattle.plant_book.specs.Site.{SiteRecord, inverters, floors}
use Rattle.plant_ledger.specs.declared.opening.OpenFault.{OpenFault}
use Rattle.plant_ledger.specs.declared.opening.OpenFault.TheVariants.{NoInverter, TooManyInverters, FloorsOverCap}

-- the first reason for which a site opens no book
abbrev pub open_fault : SiteRecord → Option OpenFault
open_fault site =
    if inverters site == 0 then Some NoInverter
    else if nat_lt 64 (inverters site) then Some (TooManyInverters (inverters site))
    else if nat_lt site.cap (floors site) then Some (FloorsOverCap (floors site))
    else None

-- the ticket comes with a grant alone, and holds its write
abbrev pub ticket_for : Reply → Option writes.Write
ticket_for (replies.Granted write) = Some write
ticket_for _ = None
