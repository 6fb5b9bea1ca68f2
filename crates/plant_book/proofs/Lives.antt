-- The last book of a life is right behind the entries of those before it.
use Rattle.std.proofs.Common.{◌≡◌, ℕ, List, [], ◌∷◌, ◌++◌, Option, Some, None, MatchOption, refl, sym, subst, append_assoc}
use Rattle.std.proofs.lemmas.List.{append-nil}
use Rattle.plant_book.specs.Site.{SiteRecord}
use Rattle.plant_book.specs.Part.{CarryRecord, PartRecord}
use Rattle.plant_book.proofs.Last.{some_is}
use Rattle.plant_book.specs.Carry.{carry_of, IsBehind}
use Rattle.plant_book.specs.Life.{carry_behind, entries_of, IsPart, AreParts, Life, IsLife}

-- the last of parts in turn is a part behind those before it
last_part : (site : SiteRecord) (start : ℕ) (before ended : List PartRecord) (part : PartRecord) → AreParts site start before (ended ++ part ∷ []) → IsPart site start (before ++ ended) part
last_part site start before [] part are = subst (λ (ps : List PartRecord). IsPart site start ps part) (sym (append-nil before)) are.0
last_part site start before (one ∷ ended) part are =
    subst (λ (ps : List PartRecord). IsPart site start ps part) (append_assoc before (one ∷ []) ended) (last_part site start (before ++ one ∷ []) ended part are.1)

carried : (site : SiteRecord) (start : ℕ) (ended : List PartRecord) (carry : Option CarryRecord) → carry ≡ carry_behind site start ended
    → MatchOption carry (entries_of ended ≡ []) (λ k. k ≡ carry_of (record { site = site; start = start; entries = entries_of ended }))
carried site start [] None is = refl
carried site start [] (Some carry) is = absurd cc
carried site start (part ∷ ended) None is = absurd cc
carried site start (part ∷ ended) (Some carry) is = some_is carry _ is

pub life_is_behind : (life : Life) → IsLife life → IsBehind (entries_of life.ended) life.last
life_is_behind life is =
    let part = last_part life.last.site life.last.start [] life.ended life.last is.parts in
    record {
      carry = carried life.last.site life.last.start life.ended life.last.carry part.carry;
      book = is.book;
    }
