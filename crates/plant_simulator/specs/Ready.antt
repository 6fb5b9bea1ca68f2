-- What is true of every plant that is simulated.
use Rattle.std.specs.Prelude.{◌≡◌, ◌<◌, ◌≤◌, ◌^◌, length}
use Rattle.plant_book.specs.Reserved.{now_of}
use Rattle.plant_book.specs.Answered.{IsBook}
use Rattle.plant_simulator.specs.Site.{site_of}
use Rattle.plant_simulator.specs.World.{World}

-- A plant of 1 to 64 inverters, whose book is one of right replies and has room for another call.
pub record IsReady (world : World) : Type 0 where
  pub book : IsBook world.book
  pub site : world.book.site ≡ site_of (length world.inverters)
  pub some : 1 ≤ length world.inverters
  pub few : length world.inverters ≤ 64
  pub time : now_of world.book ≤ world.moment
  pub moment : world.moment ≤ 10 ^ 15
  pub room : length world.book.entries < 1048576
  pub granted : world.granted < 2 ^ 31
  pub freed : world.freed < 2 ^ 31
