-- What a dial of a line did.
use Rattle.std.specs.Prelude.{◌≡◌, ◌⊎◌, ℕ, Bool, true, false, List, [], Option, Some, IfSome, option_map}
use Rattle.world_traits.specs.Links.{Link, Links, IsDown, with_link}

-- a link is up, where links are told
abbrev pub IsUp : Option Links → Type 0
IsUp told = (links : Links) → told ≡ Some links → (link : Link) × (links.current ≡ Some link)

-- A link was made: it is up, and nothing came on it yet.
abbrev pub MakesLink : (host : List ℕ) (port : ℕ) → (old new : Option Links) → (rest : List ℕ) → Type 0
MakesLink host port old new rest = (new ≡ option_map (with_link host port) old) × (rest ≡ [])

-- A dial was answered as dialed. On a line of one's own it made a link. On one that is shared it made one
-- where none was up; and where one was up, that one stands, with the bytes that came on it and weren't handed
-- out as frames.
abbrev pub IsDialed : (shares : Bool) → (host : List ℕ) (port : ℕ) → (old new : Option Links)
    → (unread rest : List ℕ) → Type 0
IsDialed false host port old new unread rest = MakesLink host port old new rest
IsDialed true host port old new unread rest =
    (IfSome old IsDown × MakesLink host port old new rest) ⊎ (IsUp old × (new ≡ old) × (rest ≡ unread))
