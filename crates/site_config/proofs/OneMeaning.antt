-- Bytes are one site file at most, have one first fault at most, and never both.
use Rattle.std.proofs.Common.{◌≡◌, ℕ, List, Some, None, refl, sym, ap, subst, ◌∙◌}
use Rattle.std.proofs.lemmas.Option.{same_Some, none-some}
use Rattle.std.specs.Prelude.{IsUtf8}
use Rattle.toml.specs.Data.{Members}
use Rattle.toml.specs.Parse.{parse_document}
use Rattle.site_config.specs.declared.fault.SiteFault.{SiteFault}
use Rattle.site_config.specs.Checks.{first_fault, table_fault}
use Rattle.site_config.specs.SiteFile.{SiteFileRecord, IsText, IsFileOf, Says, IsSiteFile, IsRefused, no_text, bad_table, bad_file, file_checks}
use Rattle.site_config.proofs.SameFile.{same_file}

same_table : (bytes : List ℕ) (s t : Members) → IsText bytes s → IsText bytes t → s ≡ t
same_table bytes s t of_s of_t = same_Some s t (sym of_s.parsed ∙ of_t.parsed)

said_once : (bytes : List ℕ) (a b : SiteFileRecord) → Says bytes a → Says bytes b → a ≡ b
said_once bytes a b of_a of_b =
    let P : Members → Type 0 = λ table. IsFileOf table b in
    same_file of_a.table a b of_a.holds (subst P (same_table bytes of_b.table of_a.table of_b.text of_a.text) of_b.holds)

pub one_file : (bytes : List ℕ) (a b : SiteFileRecord) → IsSiteFile bytes a → IsSiteFile bytes b → a ≡ b
one_file bytes a b of_a of_b = said_once bytes a b of_a.says of_b.says

-- a text without a fault has no fault
no_fault : (bytes : List ℕ) (table : Members) (file : SiteFileRecord) (fault : SiteFault) → IsText bytes table → table_fault table ≡ Some fault → Says bytes file → ⊥
no_fault bytes table file fault text found says =
    none-some fault (sym says.faultless ∙ ap table_fault (same_table bytes says.table table says.text text) ∙ found)

-- a text is one
no_table : (bytes : List ℕ) (table : Members) → (IsUtf8 bytes → parse_document bytes ≡ None) → IsText bytes table → ⊥
no_table bytes table none text = none-some table (sym (none text.utf8) ∙ text.parsed)

pub one_fault : (bytes : List ℕ) (f g : SiteFault) → IsRefused bytes f → IsRefused bytes g → f ≡ g
one_fault bytes f g (no_text a) (no_text b) = refl
one_fault bytes f g (no_text a) (bad_table table text found) = absurd (no_table bytes table a text)
one_fault bytes f g (no_text a) (bad_file file says found) = absurd (no_table bytes says.table a says.text)
one_fault bytes f g (bad_table table text found) (no_text b) = absurd (no_table bytes table b text)
one_fault bytes f g (bad_table table text found) (bad_table other its same) = same_Some f g (sym found ∙ ap table_fault (same_table bytes table other text its) ∙ same)
one_fault bytes f g (bad_table table text found) (bad_file file says same) = absurd (no_fault bytes table file f text found says)
one_fault bytes f g (bad_file file says found) (no_text b) = absurd (no_table bytes says.table b says.text)
one_fault bytes f g (bad_file file says found) (bad_table table text same) = absurd (no_fault bytes table file g text same says)
one_fault bytes f g (bad_file file says found) (bad_file other its same) =
    same_Some f g (sym found ∙ ap (λ (r : SiteFileRecord). first_fault (file_checks r)) (said_once bytes file other says its) ∙ same)

pub not_both : (bytes : List ℕ) (file : SiteFileRecord) (fault : SiteFault) → IsSiteFile bytes file → IsRefused bytes fault → ⊥
not_both bytes file fault is (no_text a) = no_table bytes is.says.table a is.says.text
not_both bytes file fault is (bad_table table text found) = no_fault bytes table file fault text found is.says
not_both bytes file fault is (bad_file other says found) =
    none-some fault (sym is.faultless ∙ ap (λ (r : SiteFileRecord). first_fault (file_checks r)) (said_once bytes file other is.says says) ∙ found)
