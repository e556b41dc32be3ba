-- What follows for the parts of an expression from its sort.
use Rattle.std.proofs.Common.{◌≡◌, Bool, true, false, List, [], ◌∷◌, map, Option, Some, None, is_some, refl, sym, ap}
use Rattle.std.proofs.Common.{◌∙◌, ◌&&◌, ◌⊎◌, inl, inr}
use Rattle.std.proofs.lemmas.Bool.{and_parts}
use Rattle.pp_tree.specs.declared.operator.BinaryOp.{BinaryOp}
use Rattle.pp_operators.specs.Classes.{class_of}
use Rattle.pp_operators.specs.declared.class.OperatorClass.{OperatorClass}
use Rattle.pp_operators.specs.declared.class.OperatorClass.TheVariants as class
use Rattle.pp_prog.specs.declared.expr.Function.{Function}
use Rattle.pp_tree.specs.declared.operator.UnaryOp.{UnaryOp}
use Rattle.pp_tree.specs.declared.operator.UnaryOp.TheVariants.{Neg, Not, Flip}
use Rattle.pp_prog.specs.declared.id.DataId.{DataId}
use Rattle.pp_prog.specs.declared.sort.Sort.{Sort}
use Rattle.pp_prog.specs.declared.sort.Sort.TheVariants as sort
use Rattle.pp_prog.specs.declared.types.Ctor.{Ctor}
use Rattle.pp_prog.specs.declared.types.TypeTable.{TypeTable}
use Rattle.pp_prog.specs.ExprSorts.{a_bool, a_tree, alike, an_int, binary_sort, call_sort, class_gives, class_sort}
use Rattle.pp_prog.specs.ExprSorts.{class_takes, has_the_sort, is_number, match_sorts, sort_if, then_sort, tree_sort}
use Rattle.pp_prog.specs.ExprSorts.{unary_sort}
use Rattle.pp_prog.specs.Sorts.{param_sorts, same_sort}
use Rattle.pp_prog.proofs.ValueSorts.{one_sort}

-- there is a sort
abbrev pub HasSort : Option Sort → Type 0
HasSort o = (s : Sort) × (o ≡ Some s)

pub some_sort : (o : Option Sort) → is_some o ≡ true → HasSort o
some_sort None h = cc
some_sort (Some s) h = (s, refl)

pub sort_then : (o : Option Sort) (go : Sort → Option Sort) (s : Sort) → then_sort o go ≡ Some s → (t : Sort)
    × (o ≡ Some t) × (go t ≡ Some s)
sort_then None go s h = cc
sort_then (Some t) go s h = (t, refl, h)

pub int_then : (o go : Option Sort) (s : Sort) → an_int o go ≡ Some s → (o ≡ Some sort.Int) × (go ≡ Some s)
int_then (Some sort.Int) go s h = (refl, h)
int_then (Some sort.Bool) go s h = cc
int_then (Some (sort.Tree d)) go s h = cc
int_then None go s h = cc

pub bool_then : (o go : Option Sort) (s : Sort) → a_bool o go ≡ Some s → (o ≡ Some sort.Bool) × (go ≡ Some s)
bool_then (Some sort.Bool) go s h = (refl, h)
bool_then (Some sort.Int) go s h = cc
bool_then (Some (sort.Tree d)) go s h = cc
bool_then None go s h = cc

pub tree_then : (o : Option Sort) (go : DataId → Option Sort) (s : Sort) → a_tree o go ≡ Some s → (d : DataId)
    × (o ≡ Some (sort.Tree d)) × (go d ≡ Some s)
tree_then (Some (sort.Tree d)) go s h = (d, refl, h)
tree_then (Some sort.Int) go s h = cc
tree_then (Some sort.Bool) go s h = cc
tree_then None go s h = cc

pub sort_there : (b : Bool) (s t : Sort) → sort_if b s ≡ Some t → (b ≡ true) × (s ≡ t)
sort_there true s t h = (refl, cc)
sort_there false s t h = cc

pub alike_are : (o q : Option Sort) (s : Sort) → alike o q ≡ Some s → (o ≡ Some s) × (q ≡ Some s)
alike_are None q s h = cc
alike_are (Some a) None s h = cc
alike_are (Some a) (Some b) s h =
    let g = sort_there _ a s h in let e = one_sort a b g.0 in (ap Some g.1, ap Some (sym e ∙ g.1))

matched_are : (os : List (Option Sort)) (ts : List Sort) → match_sorts os ts ≡ true → os ≡ map Some ts
matched_are [] [] h = refl
matched_are [] (t ∷ ts) h = cc
matched_are (o ∷ os) [] h = cc
matched_are (None ∷ os) (t ∷ ts) h = cc
matched_are (Some s ∷ os) (t ∷ ts) h =
    let k = and_parts _ _ h in let e = one_sort s t k.0 in let f = matched_are os ts k.1 in cc

-- a tree's constructor, and the sorts of its fields
pub tree_sort_is : (o : Option Ctor) (os : List (Option Sort)) (s : Sort) → tree_sort o os ≡ Some s → (k : Ctor)
    × (o ≡ Some k) × (os ≡ map Some k.fields) × (sort.Tree k.of ≡ s)
tree_sort_is None os s h = cc
tree_sort_is (Some k) os s h = let g = sort_there _ _ _ h in (k, refl, matched_are os k.fields g.0, g.1)

-- a called function, and the sorts of its arguments
pub call_sort_is : (o : Option Function) (os : List (Option Sort)) (s : Sort) → call_sort o os ≡ Some s → (f : Function)
    × (o ≡ Some f) × (os ≡ map Some (param_sorts f.params)) × (f.result ≡ s)
call_sort_is None os s h = cc
call_sort_is (Some f) os s h = let g = sort_there _ _ _ h in (f, refl, matched_are os (param_sorts f.params) g.0, g.1)

pub has_the_sort_is : (types : TypeTable) (functions : List Function) (s : Sort) (o : Option Sort)
    → has_the_sort types functions s o ≡ true → o ≡ Some s
has_the_sort_is types functions s None h = cc
has_the_sort_is types functions s (Some t) h = ap Some (one_sort t s h)

-- ---- the operands of an operator

int_part : (o go : Option Sort) (s : Sort) → an_int o go ≡ Some s → HasSort o
int_part o go s h = (sort.Int, (int_then o go s h).0)

bool_part : (o go : Option Sort) (s : Sort) → a_bool o go ≡ Some s → HasSort o
bool_part o go s h = (sort.Bool, (bool_then o go s h).0)

pub unary_part : (op : UnaryOp) (o : Option Sort) (s : Sort) → unary_sort op o ≡ Some s → HasSort o
unary_part Neg o s h = int_part o _ s h
unary_part Not o s h = bool_part o _ s h
unary_part Flip o s h = int_part o _ s h

abbrev HaveSorts : Option Sort → Option Sort → Type 0
HaveSorts a b = HasSort a × HasSort b

-- what it tells of the operands that an operator of this class has a sort
pub record Operands (c : OperatorClass) (a b : Option Sort) (s : Sort) : Type 0 where
  pub left : Sort
  pub right : Sort
  pub is_left : a ≡ Some left
  pub is_right : b ≡ Some right
  pub taken : class_takes c left right ≡ true
  pub given : class_gives c left ≡ s

pub operands : (c : OperatorClass) (a b : Option Sort) (s : Sort) → class_sort c a b ≡ Some s → Operands c a b s
operands c None b s h = cc
operands c (Some t) None s h = cc
operands c (Some t) (Some u) s h =
    let g = sort_there _ _ s h in
    record { left = t; right = u; is_left = refl; is_right = refl; taken = g.0; given = g.1 }

-- both operands have the first sort, and the result has the second
abbrev pub Operated : Option Sort → Option Sort → Sort → Sort → Sort → Type 0
Operated o q a r s = (o ≡ Some a) × (q ≡ Some a) × (r ≡ s)

operated : (c : OperatorClass) (o q : Option Sort) (a s : Sort) (h : Operands c o q s) → a ≡ h.left → a ≡ h.right
    → Operated o q a (class_gives c a) s
operated c o q a s h e f =
    (h.is_left ∙ ap Some (sym e), h.is_right ∙ ap Some (sym f), ap (class_gives c) e ∙ h.given)

-- the classes that take two numbers of one sort
of_one : (c : OperatorClass) (o q : Option Sort) (s : Sort) (h : Operands c o q s)
    → (is_number h.left && same_sort h.left h.right) ≡ true → Operated o q sort.Int (class_gives c sort.Int) s
of_one c o q s h t =
    let p = and_parts _ _ t in
    let e = one_sort sort.Int h.left p.0 in operated c o q sort.Int s h e (e ∙ one_sort h.left h.right p.1)

-- `+ -`, and as well `*` and `/ %`
pub sum_parts : (o q : Option Sort) (s : Sort) → class_sort class.Sum o q ≡ Some s
    → Operated o q sort.Int sort.Int s
sum_parts o q s h = let k = operands class.Sum o q s h in of_one class.Sum o q s k k.taken

-- `< <= > >=`
pub order_parts : (o q : Option Sort) (s : Sort) → class_sort class.Order o q ≡ Some s
    → Operated o q sort.Int sort.Bool s
order_parts o q s h = let k = operands class.Order o q s h in of_one class.Order o q s k k.taken

-- `<< >> >>>`
pub shift_parts : (o q : Option Sort) (s : Sort) → class_sort class.Shift o q ≡ Some s
    → Operated o q sort.Int sort.Int s
shift_parts o q s h =
    let k = operands class.Shift o q s h in
    let p = and_parts _ _ k.taken in
    operated class.Shift o q sort.Int s k (one_sort sort.Int k.left p.0) (one_sort sort.Int k.right p.1)

-- `&& ||`
pub logic_parts : (o q : Option Sort) (s : Sort) → class_sort class.Logic o q ≡ Some s
    → Operated o q sort.Bool sort.Bool s
logic_parts o q s h =
    let k = operands class.Logic o q s h in
    let p = and_parts _ _ k.taken in
    operated class.Logic o q sort.Bool s k (one_sort sort.Bool k.left p.0) (one_sort sort.Bool k.right p.1)

-- `== !=`
pub equality_parts : (o q : Option Sort) (s : Sort) → class_sort class.Equality o q ≡ Some s
    → (a : Sort) × Operated o q a sort.Bool s
equality_parts o q s h =
    let k = operands class.Equality o q s h in
    (k.left, operated class.Equality o q k.left s k refl (one_sort k.left k.right k.taken))

-- `& | ^`
pub bits_parts : (o q : Option Sort) (s : Sort) → class_sort class.Bitwise o q ≡ Some s
    → Operated o q sort.Int sort.Int s ⊎ Operated o q sort.Bool sort.Bool s
bits_parts o q s h = by k.left k.right k.is_left k.is_right k.taken k.given
  where
    k : Operands class.Bitwise o q s
    k = operands class.Bitwise o q s h

    by : (a b : Sort) → o ≡ Some a → q ≡ Some b → class_takes class.Bitwise a b ≡ true → a ≡ s
        → Operated o q sort.Int sort.Int s ⊎ Operated o q sort.Bool sort.Bool s
    by sort.Int b e f t g = inl (e, f ∙ ap Some (sym (one_sort sort.Int b t)), g)
    by sort.Bool b e f t g = inr (e, f ∙ ap Some (sym (one_sort sort.Bool b t)), g)
    by (sort.Tree d) b e f t g = cc

pub binary_parts : (op : BinaryOp) (a b : Option Sort) (s : Sort) → binary_sort op a b ≡ Some s → HaveSorts a b
binary_parts op a b s h = let o = operands (class_of op) a b s h in ((o.left, o.is_left), (o.right, o.is_right))
