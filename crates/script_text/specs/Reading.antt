-- How the row at the front of bytes is read: its numbers, and the bytes behind it. The reader computes this; that
-- it is right by the grammar is proved beside it. Numbers above a greatest one are read as that, which is out of
-- each range.
use Rattle.std.specs.Prelude.{◌≡◌, ℕ, ◌+◌, ◌*◌, ◌-◌, ◌^◌, List, [], ◌∷◌, length, take, drop, codes, min, suc}
use Rattle.std.specs.Prelude.{Option, Some, None, nat_lt, Bool, false, ◌==◌, ◌||◌, ◌&&◌, if◌then◌else◌, ℤ, pos, negsuc}
use Rattle.std.specs.Str.{bytes_eq}
use denote.Ref.{Bor}
use Rattle.share_policy.specs.declared.claim.Policy.{Policy}
use Rattle.share_policy.specs.declared.claim.Policy.TheVariants as policies
use Rattle.plant_book.specs.declared.call.Call.TheVariants as calls
use Rattle.script_text.specs.declared.line.Line.TheVariants as lines
use Rattle.script_text.specs.declared.fields.Fields.{Fields}
use Rattle.script_text.specs.declared.fields.Fields.TheVariants as fields
use Rattle.script_text.specs.Grammar.{Statement, Site, Inverter, Begin, Says}

-- what a function returned, its rest as bytes, is what reading gives
abbrev pub Gives : {X : Type 0} → Option (X × Bor (List ℕ)) → Option (X × List ℕ) → Type 0
Gives None read = read ≡ None
Gives (Some x) read = read ≡ Some (x.0, x.1.now)

infixl 10 ◌>>=◌
abbrev pub ◌>>=◌ : {A B : Type 0} → Option A → (A → Option B) → Option B
(Some x) >>= f = f x
None >>= f = None

-- the bytes behind a text
abbrev pub rest_after : List ℕ → List ℕ → Option (List ℕ)
rest_after text bytes =
    if bytes_eq (take (length text) bytes) text then Some (drop (length text) bytes)
    else None

-- what stands behind a first text, or else what other reading finds
abbrev pub reading : {X : Type 0} → Option (List ℕ) → (List ℕ → Option X) → Option X → Option X
reading None read other = other
reading (Some rest) read other = read rest

-- rows

abbrev pub begins_with : ℕ → List ℕ → Bool
begins_with byte [] = false
begins_with byte (first ∷ rest) = first == byte

-- the bytes of the row at the front, without its end
abbrev pub row_at : List ℕ → List ℕ
row_at [] = []
row_at (byte ∷ rest) = if byte == 10 then [] else if byte == 13 && begins_with 10 rest then [] else byte ∷ row_at rest

-- the bytes behind the row at the front and its end
abbrev pub behind_row : List ℕ → List ℕ
behind_row [] = []
behind_row (byte ∷ rest) = if byte == 10 then rest else behind_row rest

-- the bytes behind the end of a row that stands at the front, if it stands there, perhaps behind a remark
abbrev pub remark_at : List ℕ → Option (List ℕ)
remark_at [] = None
remark_at (byte ∷ rest) =
    if byte == 32 then remark_at rest else if byte == 61 then Some (behind_row rest) else None

abbrev pub feed_at : List ℕ → Option (List ℕ)
feed_at [] = None
feed_at (byte ∷ rest) = if byte == 10 then Some rest else None

abbrev pub end_at : List ℕ → Option (List ℕ)
end_at [] = Some []
end_at (byte ∷ rest) =
    if byte == 10 then Some rest else if byte == 13 then feed_at rest else remark_at (byte ∷ rest)

-- numbers

-- the greatest number that is read, and the greatest size of one that may be below zero
abbrev pub number_most : ℕ
number_most = 2 ^ 64 - 1

abbrev pub size_most : ℕ
size_most = 65536

-- the number of the digits at the front, behind those of a number
unfoldable pub digits_at : ℕ → ℕ → List ℕ → ℕ × List ℕ
digits_at most number [] = (number, [])
digits_at most number (byte ∷ rest) =
    if nat_lt byte 48 || nat_lt 57 byte then (number, byte ∷ rest)
    else digits_at most (min (number * 10 + (byte - 48)) most) rest

-- a number
unfoldable pub number_at : ℕ → List ℕ → Option (ℕ × List ℕ)
number_at most [] = None
number_at most (byte ∷ rest) =
    if byte == 48 then Some (0, rest)
    else if nat_lt byte 49 || nat_lt 57 byte then None
    else Some (digits_at most (byte - 48) rest)

-- a space and a number
unfoldable pub next_at : ℕ → List ℕ → Option (ℕ × List ℕ)
next_at most [] = None
next_at most (byte ∷ rest) = if byte == 32 then number_at most rest else None

-- the number below zero of this size, which isn't 0
abbrev pub below_zero : ℕ → ℕ → Option ℤ
below_zero most_size size = if size == 0 then None else Some (negsuc (min size most_size - 1))

-- its size, and a space and a number from zero on
abbrev pub negative_at : ℕ → ℕ → List ℕ → Option (ℤ × List ℕ)
negative_at most most_size bytes = do
  size ← number_at most bytes
  number ← below_zero most_size size.0
  Some (number, size.1)

abbrev pub positive_at : ℕ → ℕ → List ℕ → Option (ℤ × List ℕ)
positive_at most most_size bytes = do
  size ← next_at most bytes
  Some (pos (min size.0 most_size), size.1)

-- a space and a number that may be below zero
unfoldable pub signed_at : ℕ → ℕ → List ℕ → Option (ℤ × List ℕ)
signed_at most most_size bytes =
    reading (rest_after (codes " -") bytes) (negative_at most most_size) (positive_at most most_size bytes)

unfoldable pub policy_at : List ℕ → Option (Policy × List ℕ)
policy_at bytes =
    reading (rest_after (codes " open") bytes) (λ rest. Some (policies.Open, rest))
    (reading (rest_after (codes " fair") bytes) (λ rest. Some (policies.Fair, rest)) None)

-- the numbers of a row

unfoldable pub none_at : Fields → List ℕ → Option (Fields × List ℕ)
none_at made bytes = do
  rest ← end_at bytes
  Some (made, rest)

unfoldable pub one_at : ℕ → (ℕ → Fields) → List ℕ → Option (Fields × List ℕ)
one_at most make bytes = do
  a ← next_at most bytes
  rest ← end_at a.1
  Some (make a.0, rest)

unfoldable pub two_at : ℕ → (ℕ → ℕ → Fields) → List ℕ → Option (Fields × List ℕ)
two_at most make bytes = do
  a ← next_at most bytes
  b ← next_at most a.1
  rest ← end_at b.1
  Some (make a.0 b.0, rest)

unfoldable pub three_at : ℕ → (ℕ → ℕ → ℕ → Fields) → List ℕ → Option (Fields × List ℕ)
three_at most make bytes = do
  a ← next_at most bytes
  b ← next_at most a.1
  c ← next_at most b.1
  rest ← end_at c.1
  Some (make a.0 b.0 c.0, rest)

unfoldable pub four_at : ℕ → (ℕ → ℕ → ℕ → ℕ → Fields) → List ℕ → Option (Fields × List ℕ)
four_at most make bytes = do
  a ← next_at most bytes
  b ← next_at most a.1
  c ← next_at most b.1
  d ← next_at most c.1
  rest ← end_at d.1
  Some (make a.0 b.0 c.0 d.0, rest)

unfoldable pub site_at : ℕ → List ℕ → Option (Fields × List ℕ)
site_at most bytes = do
  cap ← next_at most bytes
  send ← next_at most cap.1
  delay ← next_at most send.1
  timer ← next_at most delay.1
  per_mille ← next_at most timer.1
  slack ← next_at most per_mille.1
  policy ← policy_at slack.1
  room ← next_at most policy.1
  rest ← end_at room.1
  Some (fields.Site cap.0 send.0 delay.0 timer.0 per_mille.0 slack.0 policy.0 room.0, rest)

unfoldable pub inverter_at : ℕ → ℕ → List ℕ → Option (Fields × List ℕ)
inverter_at most most_size bytes = do
  wmax ← next_at most bytes
  wsf ← signed_at most most_size wmax.1
  psf ← signed_at most most_size wsf.1
  floor ← next_at most psf.1
  rest ← end_at floor.1
  Some (fields.Inverter wmax.0 wsf.0 psf.0 floor.0, rest)

-- the numbers of the row at the front
unfoldable pub fields_at : ℕ → ℕ → List ℕ → Option (Fields × List ℕ)
fields_at most most_size bytes =
    reading (rest_after (codes "tick") bytes) (one_at most fields.Tick)
    (reading (rest_after (codes "ask") bytes) (three_at most fields.Ask)
    (reading (rest_after (codes "read") bytes) (two_at most fields.Read)
    (reading (rest_after (codes "saw") bytes) (four_at most fields.Saw)
    (reading (rest_after (codes "want") bytes) (three_at most fields.Want)
    (reading (rest_after (codes "back") bytes) (four_at most fields.Back)
    (reading (rest_after (codes "link") bytes) (two_at most fields.Link)
    (reading (rest_after (codes "stop") bytes) (one_at most fields.Stop)
    (reading (rest_after (codes "restart") bytes) (one_at most fields.Restart)
    (reading (rest_after (codes "roll") bytes) (none_at fields.Roll)
    (reading (rest_after (codes "cap") bytes) (two_at most fields.Cap)
    (reading (rest_after (codes "inverter") bytes) (inverter_at most most_size)
    (reading (rest_after (codes "site") bytes) (site_at most)
    (reading (rest_after (codes "begin") bytes) (one_at most fields.Begin) None)))))))))))))

-- what numbers say

-- the statement of these numbers
abbrev pub statement_of : Fields → Statement
statement_of (fields.Site cap send delay timer per_mille slack policy room) =
    Site cap send delay timer per_mille slack policy room
statement_of (fields.Inverter wmax wsf psf floor) = Inverter wmax wsf psf floor
statement_of (fields.Begin at) = Begin at
statement_of (fields.Link at inverter) = Says (lines.One (calls.Link at inverter))
statement_of (fields.Ask at inverter raw) = Says (lines.One (calls.Ask at inverter raw))
statement_of (fields.Read at inverter) = Says (lines.One (calls.Read at inverter))
statement_of (fields.Saw at inverter number raw) = Says (lines.One (calls.Saw at inverter number raw))
statement_of (fields.Back at inverter link number) = Says (lines.One (calls.Back at inverter link number))
statement_of (fields.Want at inverter mw) = Says (lines.One (calls.Want at inverter mw))
statement_of (fields.Tick at) = Says (lines.One (calls.Tick at))
statement_of (fields.Stop at) = Says (lines.One (calls.Stop at))
statement_of (fields.Cap at mw) = Says (lines.One (calls.Cap at mw))
statement_of (fields.Restart at) = Says (lines.Restart at)
statement_of fields.Roll = Says lines.Roll

-- a number that may be below zero, of no greater size than this
abbrev pub cut : ℕ → ℤ → ℤ
cut most_size (pos size) = pos (min size most_size)
cut most_size (negsuc size) = negsuc (min (suc size) most_size - 1)

-- the numbers of a statement, as they are read
abbrev pub fields_of : ℕ → ℕ → Statement → Fields
fields_of most most_size (Site cap send delay timer per_mille slack policy room) =
    fields.Site (min cap most) (min send most) (min delay most) (min timer most) (min per_mille most)
    (min slack most) policy (min room most)
fields_of most most_size (Inverter wmax wsf psf floor) =
    fields.Inverter (min wmax most) (cut most_size wsf) (cut most_size psf) (min floor most)
fields_of most most_size (Begin at) = fields.Begin (min at most)
fields_of most most_size (Says (lines.One (calls.Link at inverter))) = fields.Link (min at most) (min inverter most)
fields_of most most_size (Says (lines.One (calls.Ask at inverter raw))) =
    fields.Ask (min at most) (min inverter most) (min raw most)
fields_of most most_size (Says (lines.One (calls.Read at inverter))) = fields.Read (min at most) (min inverter most)
fields_of most most_size (Says (lines.One (calls.Saw at inverter number raw))) =
    fields.Saw (min at most) (min inverter most) (min number most) (min raw most)
fields_of most most_size (Says (lines.One (calls.Back at inverter link number))) =
    fields.Back (min at most) (min inverter most) (min link most) (min number most)
fields_of most most_size (Says (lines.One (calls.Want at inverter mw))) =
    fields.Want (min at most) (min inverter most) (min mw most)
fields_of most most_size (Says (lines.One (calls.Tick at))) = fields.Tick (min at most)
fields_of most most_size (Says (lines.One (calls.Stop at))) = fields.Stop (min at most)
fields_of most most_size (Says (lines.One (calls.Cap at mw))) = fields.Cap (min at most) (min mw most)
fields_of most most_size (Says (lines.Restart at)) = fields.Restart (min at most)
fields_of most most_size (Says lines.Roll) = fields.Roll
