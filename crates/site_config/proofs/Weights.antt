-- How many items the arrays of a table hold, one within the other counted too, and what a definition adds to it.
use Rattle.std.proofs.Common.{◌≡◌, ℕ, ◌+◌, ◌≤◌, Bool, true, false, cond, List, [], ◌∷◌, Option, Some, None, option_map, option_and_then, IfSome, Ordering, Less, Equal, Greater, refl, arith}
use Rattle.std.specs.Ordering.{nat_cmp, match_ordering}
use Rattle.std.specs.Cmp.Lexicographic.{slice_cmp}
use Rattle.toml_parser.specs.Strings.{Key}
use Rattle.toml.specs.Data.{Data, array, table, Items, no_items, item, Members, no_members, member, same_key, push_item, get_member}
use Rattle.toml.specs.Tables.{implicit, dotted, header, Node, value, open_table, open_array, Nodes, no_nodes, node, get_node, insert, replace, close_node, close, Edit, header_node, dot_node, by_header, by_dot, along_header, along_dots, Definition, key_value, std_table, array_table, Expression, new_node, redefine, at_found, at_key, put, Document, define_as, define}

abbrev mutual
  pub weight : Data → ℕ
  weight (array items) = items_weight items
  weight (table members) = members_weight members
  weight _ = 0

  pub items_weight : Items → ℕ
  items_weight no_items = 0
  items_weight (item first more) = 1 + weight first + items_weight more

  pub members_weight : Members → ℕ
  members_weight no_members = 0
  members_weight (member key held more) = weight held + members_weight more

-- the same of what a text has defined so far
abbrev mutual
  pub node_weight : Node → ℕ
  node_weight (value held) = weight held
  node_weight (open_table origin nodes) = nodes_weight nodes
  node_weight (open_array done nodes) = items_weight done + 1 + nodes_weight nodes

  pub nodes_weight : Nodes → ℕ
  nodes_weight no_nodes = 0
  nodes_weight (node key first more) = node_weight first + nodes_weight more

pub items_weight-push : (items : Items) (last : Data) → items_weight (push_item items last) ≡ items_weight items + 1 + weight last
items_weight-push no_items last = omega arith
items_weight-push (item first more) last = omega (arith, items_weight-push more last)

mutual
  weight-close_node : (x : Node) → weight (close_node x) ≡ node_weight x
  weight-close_node (value held) = refl
  weight-close_node (open_table origin nodes) = members_weight-close nodes
  weight-close_node (open_array done nodes) = omega (arith, items_weight-push done (table (close nodes)), members_weight-close nodes)

  pub members_weight-close : (nodes : Nodes) → members_weight (close nodes) ≡ nodes_weight nodes
  members_weight-close no_nodes = refl
  members_weight-close (node key first more) = omega (arith, weight-close_node first, members_weight-close more)

-- a change of nodes

-- what holds of a value that may be there, through steps that may fail
pub IfSome-bind : {A B : Type 0} (o : Option A) (f : A → Option B) (P : B → Type 0) → IfSome o (λ a. IfSome (f a) P) → IfSome (option_and_then f o) P
IfSome-bind None f P h = tt
IfSome-bind (Some a) f P h = h

pub IfSome-map : {A B : Type 0} (o : Option A) (f : A → B) (P : B → Type 0) → IfSome o (λ a. P (f a)) → IfSome (option_map f o) P
IfSome-map None f P h = tt
IfSome-map (Some a) f P h = h

pub IfSome-if : {A : Type 0} (b : Bool) (x y : Option A) (P : A → Type 0) → (b ≡ true → IfSome x P) → (b ≡ false → IfSome y P) → IfSome (cond b x y) P
IfSome-if true x y P then else = then refl
IfSome-if false x y P then else = else refl

pub IfSome-weaker : {A : Type 0} (o : Option A) (P Q : A → Type 0) → ((a : A) → P a → Q a) → IfSome o P → IfSome o Q
IfSome-weaker None P Q weaker h = tt
IfSome-weaker (Some a) P Q weaker h = weaker a h

inserted : (o : Ordering) (k l : List ℕ) (x y : Node) (nodes more : Nodes) → nodes_weight more ≤ node_weight x + nodes_weight nodes
    → nodes_weight (match_ordering o (node k x (node l y nodes)) (node l x nodes) (node l y more)) ≤ node_weight x + (node_weight y + nodes_weight nodes)
inserted Less k l x y nodes more h = omega arith
inserted Equal k l x y nodes more h = omega arith
inserted Greater k l x y nodes more h = omega arith

nodes_weight-insert : (k : List ℕ) (x : Node) (nodes : Nodes) → nodes_weight (insert k x nodes) ≤ node_weight x + nodes_weight nodes
nodes_weight-insert k x no_nodes = omega arith
nodes_weight-insert k x (node l y nodes) = inserted (slice_cmp nat_cmp k l) k l x y nodes (insert k x nodes) (nodes_weight-insert k x nodes)

-- a node in place of another
abbrev Replaces : Nodes → Option Node → Nodes → Node → Type 0
Replaces nodes found changed x = IfSome found (λ y. nodes_weight changed + node_weight y ≤ nodes_weight nodes + node_weight x)

replaced : (b : Bool) (k l : List ℕ) (x y : Node) (nodes changed : Nodes) (found : Option Node) → Replaces nodes found changed x
    → Replaces (node l y nodes) (cond b (Some y) found) (cond b (node l x nodes) (node l y changed)) x
replaced true k l x y nodes changed found h = omega arith
replaced false k l x y nodes changed None h = tt
replaced false k l x y nodes changed (Some z) h = omega arith

replace_adds : (k : List ℕ) (x : Node) (nodes : Nodes) → Replaces nodes (get_node k nodes) (replace k x nodes) x
replace_adds k x no_nodes = tt
replace_adds k x (node l y nodes) = replaced (same_key k l) k l x y nodes (replace k x nodes) (get_node k nodes) (replace_adds k x nodes)

-- an edit adds at most this much
pub record Adds (edit : Edit) (much : ℕ) : Type 0 where
  pub at_most : (nodes : Nodes) → IfSome (edit nodes) (λ new. nodes_weight new ≤ nodes_weight nodes + much)

-- what stands on a line adds
abbrev pub definition_weight : Definition → ℕ
definition_weight (key_value held) = weight held
definition_weight std_table = 0
definition_weight array_table = 1

new_node_weight : (what : Definition) → node_weight (new_node what) ≤ definition_weight what
new_node_weight (key_value held) = omega arith
new_node_weight std_table = omega arith
new_node_weight array_table = omega arith

redefine_adds : (what : Definition) (x : Node) → IfSome (redefine what x) (λ y. node_weight y ≤ node_weight x + definition_weight what)
redefine_adds (key_value held) x = tt
redefine_adds std_table (value held) = tt
redefine_adds std_table (open_table implicit nodes) = omega arith
redefine_adds std_table (open_table dotted nodes) = tt
redefine_adds std_table (open_table header nodes) = tt
redefine_adds std_table (open_array done nodes) = tt
redefine_adds array_table (value held) = tt
redefine_adds array_table (open_table origin nodes) = tt
redefine_adds array_table (open_array done nodes) = omega (arith, items_weight-push done (table (close nodes)), members_weight-close nodes)

-- a node that is put where it may have stood
put_back : (k : List ℕ) (nodes : Nodes) (x y : Node) (much : ℕ) → get_node k nodes ≡ Some x → node_weight y ≤ node_weight x + much → nodes_weight (replace k y nodes) ≤ nodes_weight nodes + much
put_back k nodes x y much found small =
    let h : Replaces nodes (Some x) (replace k y nodes) y = rw found at (replace_adds k y nodes) in omega (arith, h)

at_found_adds : (k : List ℕ) (what : Definition) (nodes : Nodes) (found : Option Node) → get_node k nodes ≡ found
    → IfSome (at_found k what nodes found) (λ new. nodes_weight new ≤ nodes_weight nodes + definition_weight what)
at_found_adds k what nodes None is = omega (arith, nodes_weight-insert k (new_node what) nodes, new_node_weight what)
at_found_adds k what nodes (Some x) is =
    IfSome-map (redefine what x) (λ y. replace k y nodes) (λ new. nodes_weight new ≤ nodes_weight nodes + definition_weight what)
    (IfSome-weaker (redefine what x) _ _ (λ y small. put_back k nodes x y (definition_weight what) is small) (redefine_adds what x))

at_key_adds : (k : List ℕ) (what : Definition) → Adds (at_key k what) (definition_weight what)
unfolding at_key
at_key_adds k what = record { at_most = λ nodes. at_found_adds k what nodes (get_node k nodes) refl }

header_node_adds : (edit : Edit) (much : ℕ) → Adds edit much → (x : Node) → IfSome (header_node edit x) (λ y. node_weight y ≤ node_weight x + much)
header_node_adds edit much adds (value held) = tt
header_node_adds edit much adds (open_table origin inner) = IfSome-map (edit inner) (open_table origin) _ (adds.at_most inner)
header_node_adds edit much adds (open_array done last) =
    IfSome-map (edit last) (open_array done) _ (IfSome-weaker (edit last) _ _ (λ new h. omega arith) (adds.at_most last))

dot_node_adds : (edit : Edit) (much : ℕ) → Adds edit much → (x : Node) → IfSome (dot_node edit x) (λ y. node_weight y ≤ node_weight x + much)
dot_node_adds edit much adds (value held) = tt
dot_node_adds edit much adds (open_table header inner) = tt
dot_node_adds edit much adds (open_table implicit inner) = IfSome-map (edit inner) (open_table dotted) _ (adds.at_most inner)
dot_node_adds edit much adds (open_table dotted inner) = IfSome-map (edit inner) (open_table dotted) _ (adds.at_most inner)
dot_node_adds edit much adds (open_array done last) = tt

by_header_adds : (k : List ℕ) (edit : Edit) (much : ℕ) (nodes : Nodes) (found : Option Node) → Adds edit much → get_node k nodes ≡ found
    → IfSome (by_header k edit nodes found) (λ new. nodes_weight new ≤ nodes_weight nodes + much)
by_header_adds k edit much nodes None adds is =
    IfSome-map (edit no_nodes) (λ new. insert k (open_table implicit new) nodes) _
    (IfSome-weaker (edit no_nodes) _ _ (λ new h. omega (arith, nodes_weight-insert k (open_table implicit new) nodes)) (adds.at_most no_nodes))
by_header_adds k edit much nodes (Some x) adds is =
    IfSome-map (header_node edit x) (λ new. replace k new nodes) _
    (IfSome-weaker (header_node edit x) _ _ (λ y small. put_back k nodes x y much is small) (header_node_adds edit much adds x))

by_dot_adds : (k : List ℕ) (edit : Edit) (much : ℕ) (nodes : Nodes) (found : Option Node) → Adds edit much → get_node k nodes ≡ found
    → IfSome (by_dot k edit nodes found) (λ new. nodes_weight new ≤ nodes_weight nodes + much)
by_dot_adds k edit much nodes None adds is =
    IfSome-map (edit no_nodes) (λ new. insert k (open_table dotted new) nodes) _
    (IfSome-weaker (edit no_nodes) _ _ (λ new h. omega (arith, nodes_weight-insert k (open_table dotted new) nodes)) (adds.at_most no_nodes))
by_dot_adds k edit much nodes (Some x) adds is =
    IfSome-map (dot_node edit x) (λ new. replace k new nodes) _
    (IfSome-weaker (dot_node edit x) _ _ (λ y small. put_back k nodes x y much is small) (dot_node_adds edit much adds x))

along_header_adds : (path : List (List ℕ)) (edit : Edit) (much : ℕ) → Adds edit much → Adds (along_header path edit) much
unfolding along_header
along_header_adds [] edit much adds = record { at_most = λ nodes. adds.at_most nodes }
along_header_adds (k ∷ path) edit much adds = record {
  at_most = λ nodes. by_header_adds k (along_header path edit) much nodes (get_node k nodes) (along_header_adds path edit much adds) refl;
}

along_dots_adds : (path : List (List ℕ)) (edit : Edit) (much : ℕ) → Adds edit much → Adds (along_dots path edit) much
unfolding along_dots
along_dots_adds [] edit much adds = record { at_most = λ nodes. adds.at_most nodes }
along_dots_adds (k ∷ path) edit much adds = record {
  at_most = λ nodes. by_dot_adds k (along_dots path edit) much nodes (get_node k nodes) (along_dots_adds path edit much adds) refl;
}

-- one more key and value in a table
pub put_adds : (key : Key) (held : Data) → Adds (put key held) (weight held)
put_adds key held = along_dots_adds key.0 (at_key key.1 (key_value held)) (weight held) (at_key_adds key.1 (key_value held))

define_as_adds : (doc : Document) (key : Key) (what : Definition) → IfSome (define_as doc key what) (λ next. nodes_weight next.0 ≤ nodes_weight doc.0 + definition_weight what)
define_as_adds doc key (key_value held) =
    IfSome-map (along_header doc.1 (put key held) doc.0) _ _ ((along_header_adds doc.1 (put key held) (weight held) (put_adds key held)).at_most doc.0)
define_as_adds doc key std_table =
    IfSome-map (along_header key.0 (at_key key.1 std_table) doc.0) _ _ ((along_header_adds key.0 (at_key key.1 std_table) 0 (at_key_adds key.1 std_table)).at_most doc.0)
define_as_adds doc key array_table =
    IfSome-map (along_header key.0 (at_key key.1 array_table) doc.0) _ _ ((along_header_adds key.0 (at_key key.1 array_table) 1 (at_key_adds key.1 array_table)).at_most doc.0)

-- one more expression
pub define_adds : (doc : Document) (e : Expression) → IfSome (define doc e) (λ next. nodes_weight next.0 ≤ nodes_weight doc.0 + definition_weight e.1)
unfolding define
define_adds doc e = define_as_adds doc e.0 e.1

-- what a table holds at a key

held_within : (o : Ordering) (rest : Option Data) (held : Data) (much : ℕ) → IfSome rest (λ d. weight d ≤ much)
    → IfSome (match_ordering o rest (Some held) rest) (λ d. weight d ≤ weight held + much)
held_within Less None held much h = tt
held_within Less (Some d) held much h = omega arith
held_within Equal rest held much h = omega arith
held_within Greater None held much h = tt
held_within Greater (Some d) held much h = omega arith

pub get_member_within : (k : List ℕ) (members : Members) → IfSome (get_member k members) (λ d. weight d ≤ members_weight members)
get_member_within k no_members = tt
get_member_within k (member l held more) = held_within (slice_cmp nat_cmp k l) (get_member k more) held (members_weight more) (get_member_within k more)
