-- What was read of the inverters up to a number.
use Rattle.std.proofs.Common.{◌≡◌, ℕ, ◌+◌, ◌<◌, List, [], ◌∷◌, ◌++◌, length, map, take, get_or, None, refl, sym, ap, ◌∙◌}
use Rattle.std.proofs.lemmas.List.{take_more, map-append}
use Rattle.std.proofs.Math.Seq.{take-length}
use Rattle.toml.specs.Data.{Members}
use Rattle.site_config.specs.declared.inverters.Inverter.{Inverter}
use Rattle.site_config.specs.Checks.{first_fault, each, inverter_checks}
use Rattle.site_config.specs.Reading.{inverter_at}
use Rattle.site_config.proofs.FirstFaults.{PassesUpTo, passes_more, passes_all}

pub record IsReadUpTo (tables : List Members) (n : ℕ) (read : List Inverter) : Type 0 where
  pub passes : PassesUpTo inverter_checks tables n
  pub read_is : read ≡ map inverter_at (take n tables)

pub IsReadUpTo-zero : (tables : List Members) → IsReadUpTo tables 0 []
IsReadUpTo-zero tables = record { passes = refl; read_is = refl }

pub IsReadUpTo-more : (tables : List Members) (n : ℕ) (read : List Inverter) (table : Members) (inverter : Inverter) → IsReadUpTo tables n read → n < length tables
    → get_or tables n table ≡ table → first_fault (inverter_checks n table) ≡ None → inverter ≡ inverter_at table → IsReadUpTo tables (n + 1) (read ++ inverter ∷ [])
IsReadUpTo-more tables n read table inverter before within here none is = record {
  passes = passes_more inverter_checks tables n table within here before.passes none;
  read_is =
      ap (λ (front : List Inverter). front ++ inverter ∷ []) before.read_is
      ∙ ap (λ (last : Inverter). map inverter_at (take n tables) ++ last ∷ []) is
      ∙ sym (map-append inverter_at (take n tables) (table ∷ []))
      ∙ ap (λ (last : Members). map inverter_at (take n tables ++ last ∷ [])) (sym here)
      ∙ ap (map inverter_at) (sym (take_more tables n table within));
}

pub IsReadUpTo-all : (tables : List Members) (n : ℕ) (read : List Inverter) → IsReadUpTo tables n read → n ≡ length tables
    → (first_fault (each inverter_checks tables) ≡ None) × (read ≡ map inverter_at tables)
IsReadUpTo-all tables n read whole all = (
  passes_all inverter_checks tables n all whole.passes,
  whole.read_is ∙ ap (λ (m : ℕ). map inverter_at (take m tables)) all ∙ ap (map inverter_at) (take-length tables),
)
