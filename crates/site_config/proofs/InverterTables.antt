-- Arrays of tables, place by place.
use Rattle.std.proofs.Common.{◌≡◌, ℕ, zero, suc, ◌<◌, Bool, false, ◌&&◌, List, [], ◌∷◌, length, get_or, Option, Some, None, is_some, IsSome, option_map, option_and_then, refl, sym, ap, ◌∙◌, arith}
use Rattle.std.proofs.lemmas.Bool.{false≢true}
use Rattle.std.proofs.lemmas.Option.{same_Some, get_or_from_slice_get}
use Rattle.std.specs.List.{list_all, slice_get}
use Rattle.toml.specs.Data.{Data, Members, as_array, as_table}
use Rattle.toml.specs.View.{view, items_view}
use Rattle.toml.specs.declared.value.Value.{Value}
use Rattle.site_config.specs.Keys.{value_at, tables_of, as_tables, inverters_at}
use Rattle.site_config.specs.Checks.{count_fault, inverters_fault}
use Rattle.site_config.specs.declared.key.Key.TheVariants as keys

-- the tables of a first value and of those behind it
abbrev joined : Option Members → Option (List Members) → Option (List Members)
joined first more = option_and_then (λ table. option_map (λ tables. table ∷ tables) more) first

is_some-joined : (first : Option Members) (more : Option (List Members)) → is_some (joined first more) ≡ (is_some first && is_some more)
is_some-joined None more = refl
is_some-joined (Some table) None = refl
is_some-joined (Some table) (Some tables) = refl

-- an array has tables where each of its values is one
pub is_some-tables_of : (values : List Value) → is_some (tables_of (items_view values)) ≡ list_all (λ value. is_some (as_table (view value))) values
is_some-tables_of [] = refl
is_some-tables_of (value ∷ more) =
    is_some-joined (as_table (view value)) (tables_of (items_view more)) ∙ ap (λ (b : Bool). is_some (as_table (view value)) && b) (is_some-tables_of more)

record Parts (first : Option Members) (more : Option (List Members)) (tables : List Members) : Type 0 where
  head : Members
  tail : List Members
  here : first ≡ Some head
  behind : more ≡ Some tail
  whole : tables ≡ head ∷ tail

parts : (first : Option Members) (more : Option (List Members)) (tables : List Members) → joined first more ≡ Some tables → Parts first more tables
parts None more tables e = absurd cc
parts (Some head) None tables e = absurd cc
parts (Some head) (Some tail) tables e = record { head = head; tail = tail; here = refl; behind = refl; whole = sym (same_Some _ _ e) }

-- it has as many tables as values
pub length-tables_of : (values : List Value) (tables : List Members) → tables_of (items_view values) ≡ Some tables → length tables ≡ length values
length-tables_of [] tables e = ap length (sym (same_Some _ _ e))
length-tables_of (value ∷ more) tables e =
    let p = parts (as_table (view value)) (tables_of (items_view more)) tables e in
    ap length p.whole ∙ ap suc (length-tables_of more p.tail p.behind)

-- the table at a place is the value there
pub record IsTableAt (tables : List Members) (place : ℕ) (value : Value) : Type 0 where
  pub table : Members
  pub value_is : as_table (view value) ≡ Some table
  pub found : slice_get tables place ≡ Some table

pub table_at : (values : List Value) (tables : List Members) (place : ℕ) (d : Value) → tables_of (items_view values) ≡ Some tables → place < length values → IsTableAt tables place (get_or values place d)
table_at [] tables place d e within = absurd (omega arith)
table_at (value ∷ more) tables zero d e within =
    let p = parts (as_table (view value)) (tables_of (items_view more)) tables e in
    record { table = p.head; value_is = p.here; found = ap (λ (ts : List Members). slice_get ts zero) p.whole }
table_at (value ∷ more) tables (suc place) d e within =
    let p = parts (as_table (view value)) (tables_of (items_view more)) tables e in
    let below : place < length more = omega arith in
    let t = table_at more p.tail place d p.behind below in
    record { table = t.table; value_is = t.value_is; found = ap (λ (ts : List Members). slice_get ts (suc place)) p.whole ∙ t.found }

-- the value in a `Some`
pub some_of : {X : Type 0} (o : Option X) → IsSome o → (x : X) × (o ≡ Some x)
some_of None h = absurd (false≢true h)
some_of (Some x) h = (x, refl)

pub none_of : {X : Type 0} (o : Option X) → is_some o ≡ false → o ≡ None
none_of None h = refl
none_of (Some x) h = absurd (false≢true (sym h))

-- an array as tables, by the slice of its values
pub as_tables_of : (value : Data) (items slice : List Value) → Some (items_view items) ≡ as_array value → slice ≡ items → as_tables value ≡ tables_of (items_view slice)
as_tables_of value items slice array same = ap (option_and_then tables_of) (sym array) ∙ ap (λ (vs : List Value). tables_of (items_view vs)) (sym same)

-- the array of the inverters is counted by its values
pub record IsCounted (site : Members) (values : List Value) : Type 0 where
  pub fault : inverters_fault site ≡ count_fault (inverters_at site)
  pub tables : tables_of (items_view values) ≡ Some (inverters_at site)
  pub count : length (inverters_at site) ≡ length values

counted_at : (site : Members) (value : Data) (values : List Value) (tables : List Members) → Some value ≡ value_at keys.Inverter site
    → as_tables value ≡ tables_of (items_view values) → tables_of (items_view values) ≡ Some tables → IsCounted site values
unfolding inverters_fault inverters_at
counted_at site value values tables held same known =
    let is : inverters_at site ≡ tables = rw (← held, same, known) refl in
    record {
      fault = rw (← held, same, known) refl;
      tables = known ∙ ap Some (sym is);
      count = ap length is ∙ length-tables_of values tables known;
    }

pub counted : (site : Members) (value : Data) (values : List Value) → Some value ≡ value_at keys.Inverter site
    → IsSome (tables_of (items_view values)) → as_tables value ≡ tables_of (items_view values) → IsCounted site values
counted site value values held tables same =
    let known = some_of (tables_of (items_view values)) tables in counted_at site value values known.0 held same known.1

-- the value at a place is a table
pub is_table : (values : List Value) (place : ℕ) (item : Value) → IsSome (tables_of (items_view values)) → place < length values
    → item ≡ get_or values place item → IsSome (as_table (view item))
is_table values place item tables within is =
    let known = some_of (tables_of (items_view values)) tables in
    let at = table_at values known.0 place item known.1 within in
    ap is_some (ap (λ (v : Value). as_table (view v)) is ∙ at.value_is)

-- and it is the table at that place
pub get_or-tables : (values : List Value) (known : List Members) (place : ℕ) (item : Value) (table : Members) → tables_of (items_view values) ≡ Some known
    → place < length values → item ≡ get_or values place item → Some table ≡ as_table (view item) → get_or known place table ≡ table
get_or-tables values known place item table tables within is seen =
    let at = table_at values known place item tables within in
    get_or_from_slice_get known place at.table table at.found
    ∙ same_Some _ _ (sym (seen ∙ ap (λ (v : Value). as_table (view v)) is ∙ at.value_is))
