-- The lines of a script, and the words of each.
use Rattle.std.specs.Prelude.{◌≡◌, ℕ, List, [], ◌∷◌, ◌++◌, codes, ℤ, ◌⊎◌}
use Rattle.share_policy.specs.declared.claim.Policy.{Policy}
use Rattle.share_policy.specs.declared.claim.Policy.TheVariants as policies
use Rattle.plant_book.specs.declared.call.Call.{Call}
use Rattle.plant_book.specs.declared.call.Call.TheVariants as calls
use Rattle.plant_book.specs.declared.call.Reply.{Reply}
use Rattle.plant_book.specs.declared.call.Reply.TheVariants as replies
use Rattle.script_text.specs.declared.line.Line.{Line}
use Rattle.script_text.specs.declared.line.Line.TheVariants as lines
use Rattle.script_text.specs.Words.{Word, Text, Number, Signed, AreWords, spaced}

-- what a line says, whatever its numbers are: the head's lines first
pub data Statement : Type 0 where
  Site : (cap send delay timer per_mille slack : ℕ) (policy : Policy) (room : ℕ) → Statement
  Inverter : (wmax : ℕ) (wsf psf : ℤ) (floor : ℕ) → Statement
  Begin : (at : ℕ) → Statement
  Says : (line : Line) → Statement

abbrev pub policy_word : Policy → List ℕ
policy_word policies.Open = codes "open"
policy_word policies.Fair = codes "fair"

abbrev pub call_words : Call → List Word
call_words (calls.Link at inverter) = Text (codes "link") ∷ Number at ∷ Number inverter ∷ []
call_words (calls.Ask at inverter raw) = Text (codes "ask") ∷ Number at ∷ Number inverter ∷ Number raw ∷ []
call_words (calls.Read at inverter) = Text (codes "read") ∷ Number at ∷ Number inverter ∷ []
call_words (calls.Saw at inverter number raw) =
    Text (codes "saw") ∷ Number at ∷ Number inverter ∷ Number number ∷ Number raw ∷ []
call_words (calls.Back at inverter link number) =
    Text (codes "back") ∷ Number at ∷ Number inverter ∷ Number link ∷ Number number ∷ []
call_words (calls.Want at inverter mw) = Text (codes "want") ∷ Number at ∷ Number inverter ∷ Number mw ∷ []
call_words (calls.Tick at) = Text (codes "tick") ∷ Number at ∷ []
call_words (calls.Stop at) = Text (codes "stop") ∷ Number at ∷ []
call_words (calls.Cap at mw) = Text (codes "cap") ∷ Number at ∷ Number mw ∷ []

abbrev pub reply_words : Reply → List Word
reply_words (replies.Linked link) = Text (codes "linked") ∷ Number link ∷ []
reply_words (replies.Granted write) = Text (codes "granted") ∷ Number write.link ∷ Number write.number ∷ []
reply_words (replies.ReadAs read) = Text (codes "readas") ∷ Number read.link ∷ Number read.number ∷ []
reply_words (replies.Freed count reserved) = Text (codes "freed") ∷ Number count ∷ Number reserved ∷ []
reply_words replies.Taken = Text (codes "taken") ∷ []
reply_words (replies.Total total) = Text (codes "total") ∷ Number total ∷ []
reply_words replies.Unlinked = Text (codes "unlinked") ∷ []
reply_words replies.Spent = Text (codes "spent") ∷ []
reply_words (replies.Over full) = Text (codes "over") ∷ Number full ∷ []
reply_words (replies.Silent until) = Text (codes "silent") ∷ Number until ∷ []
reply_words (replies.NotAllowed raw) = Text (codes "notallowed") ∷ Number raw ∷ []
reply_words (replies.NoWatts unreserved) = Text (codes "nowatts") ∷ Number unreserved ∷ []
reply_words replies.Crowded = Text (codes "crowded") ∷ []
reply_words replies.NoRead = Text (codes "noread") ∷ []
reply_words (replies.Strange raw) = Text (codes "strange") ∷ Number raw ∷ []
reply_words replies.NoWrite = Text (codes "nowrite") ∷ []
reply_words (replies.CapSet cap ceiling) = Text (codes "capset") ∷ Number cap ∷ Number ceiling ∷ []
reply_words (replies.CapOut least most) = Text (codes "capout") ∷ Number least ∷ Number most ∷ []

abbrev pub line_words : Line → List Word
line_words (lines.One call) = call_words call
line_words (lines.Restart at) = Text (codes "restart") ∷ Number at ∷ []
line_words lines.Roll = Text (codes "roll") ∷ []

abbrev pub statement_words : Statement → List Word
statement_words (Site cap send delay timer per_mille slack policy room) =
    Text (codes "site") ∷ Number cap ∷ Number send ∷ Number delay ∷ Number timer ∷ Number per_mille
    ∷ Number slack ∷ Text (policy_word policy) ∷ Number room ∷ []
statement_words (Inverter wmax wsf psf floor) =
    Text (codes "inverter") ∷ Number wmax ∷ Signed wsf ∷ Signed psf ∷ Number floor ∷ []
statement_words (Begin at) = Text (codes "begin") ∷ Number at ∷ []
statement_words (Says line) = line_words line

-- spaces, an equals sign, and anything behind it
abbrev pub IsRemark : List ℕ → Type 0
IsRemark [] = ⊥
IsRemark (byte ∷ more) = (byte ≡ 61) ⊎ ((byte ≡ 32) × IsRemark more)

-- what isn't read at the end of a line: nothing, or a remark
abbrev pub IsUnread : List ℕ → Type 0
IsUnread [] = Unit {0}
IsUnread (byte ∷ more) = IsRemark (byte ∷ more)

-- the row of bytes spells the words of the statement, one space between two, and what isn't read stands behind
pub record IsSpelled (row : List ℕ) (statement : Statement) : Type 0 where
  pub words : List (List ℕ)
  pub unread : List ℕ
  pub are : AreWords (statement_words statement) words
  pub spelling : row ≡ spaced words ++ unread
  pub is_unread : IsUnread unread

-- the row begins with a number sign
abbrev pub IsComment : List ℕ → Type 0
IsComment [] = ⊥
IsComment (byte ∷ more) = byte ≡ 35
