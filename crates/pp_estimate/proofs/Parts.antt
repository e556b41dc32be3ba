-- What is counted for each form of expression, where its parts are counted one after another.
use Rattle.std.proofs.Common.{◌≡◌, ◌<◌, ◌+◌, ◌*◌, ℕ, zero, suc, max, List, [], ◌∷◌, ◌++◌, map, take, drop, length}
use Rattle.std.proofs.Common.{get_or, inl, inr, Option, Some, None, slice_get, refl, sym, ap, ◌∙◌, arith, add-one}
use Rattle.std.proofs.Common.{append_assoc, drop-cons}
use Rattle.std.proofs.Math.Nat.{mul_comm, le-mul_of_pos_right}
use Rattle.std.proofs.lemmas.Bool.Decides.{leb_tells}
use Rattle.std.proofs.lemmas.List.{take_more}
use Rattle.std.specs.Option.{option_map}
use Rattle.pp_tree.specs.declared.operator.BinaryOp.{BinaryOp}
use Rattle.pp_prog.specs.declared.expr.Case.{Case}
use Rattle.pp_prog.specs.declared.expr.Expr.{Expr}
use Rattle.pp_prog.specs.declared.expr.Expr.TheFolds.{fold_out-Case, map-Case}
use Rattle.pp_prog.specs.declared.expr.Expr.TheVariants.{Unary, Binary, Construct, Field, If, Match, Val, Assert, Call}
use Rattle.pp_prog.specs.declared.expr.Pattern.{Pattern}
use Rattle.pp_tree.specs.declared.operator.UnaryOp.{UnaryOp}
use Rattle.pp_prog.specs.declared.id.CheckId.{CheckId}
use Rattle.pp_prog.specs.declared.id.CtorId.{CtorId}
use Rattle.pp_prog.specs.declared.id.FunctionId.{FunctionId}
use Rattle.pp_prog.specs.declared.sort.Sort.{Sort}
use Rattle.pp_prog.specs.declared.types.TypeTable.{TypeTable}
use Rattle.pp_prog.specs.Results.{tree_result}
use Rattle.pp_estimate.specs.declared.counts.Counts.{Counts}
use Rattle.pp_estimate.specs.declared.shape.Shape.{Shape}
use Rattle.pp_estimate.specs.Counted.{counted}
use Rattle.pp_estimate.specs.Cut.{cut, top}
use Rattle.pp_estimate.specs.Events.{Event, called}
use Rattle.pp_operators.specs.Gates.{unary_gates}
use Rattle.pp_estimate.specs.Visits.{Arm, Calls, Visit, Visiting, all_events, arm_step, arms, binary_extra, bound}
use Rattle.pp_estimate.specs.Visits.{choice_extra, first_sort, guard_events, look_at, matched, node, pattern_events}
use Rattle.pp_estimate.specs.Visits.{shape_of, tallest, visit_case, visit_of, visit_step, visits}
use Rattle.pp_estimate.proofs.Merged.{counted_append}
use Rattle.pp_estimate.proofs.Visited.{node_cut, of_assert, of_binary, of_call, of_construct, of_field, of_if, of_match}
use Rattle.pp_estimate.proofs.Visited.{of_unary, of_val, then_both, two, three, four}

cut_low : (c : ℕ) → c < top → cut c ≡ c
cut_low c lt = omega (arith, lt)

cut_high : (c : ℕ) → top < suc c → cut c ≡ top
cut_high c gt = omega (arith, gt)

-- a product with a factor that was cut
pub cut_times : (c n : ℕ) → cut (cut c * n) ≡ cut (c * n)
cut_times c zero = let none : cut c * 0 ≡ c * 0 = omega arith in ap cut none
cut_times c (suc n) = elim (leb_tells top c) [
  | inl high ↦
      let full : cut c ≡ top = cut_high c (omega (arith, high.1)) in
      let pos : 0 < suc n = omega arith in
      let more = le-mul_of_pos_right {m = suc n} c pos in
      let less = le-mul_of_pos_right {m = suc n} top pos in
      let left : cut (top * suc n) ≡ top = cut_high (top * suc n) (omega (arith, less)) in
      let right : cut (c * suc n) ≡ top = cut_high (c * suc n) (omega (arith, more, high.1)) in
      ap (λ (k : ℕ). cut (k * suc n)) full ∙ left ∙ sym right
  | inr low ↦ ap (λ (k : ℕ). cut (k * suc n)) (cut_low c (omega (arith, low.1)))
]

-- items that are visited one after another
module _ {A : Type 0} {B : Type 0} (v : A → B) (run : B → Visit) where
  abbrev runs : List A → List Visit
  runs xs = map run (map v xs)

  shapes_push : (xs : List A) (x : A) → map shape_of (runs (xs ++ x ∷ []))
      ≡ map shape_of (runs xs) ++ (run (v x)).shape ∷ []
  shapes_push [] x = refl
  shapes_push (y ∷ xs) x = ap (λ (l : List Shape). (run (v y)).shape ∷ l) (shapes_push xs x)

  pub shapes_more : (xs : List A) (i : ℕ) (x : A) (ss next : List Shape) (s : Shape) → i < length xs → x ≡ get_or xs i x
      → ss ≡ map shape_of (runs (take i xs)) → s ≡ (run (v x)).shape → next ≡ ss ++ s ∷ []
      → next ≡ map shape_of (runs (take (i + 1) xs))
  shapes_more xs i x ss next s lt is inv se e =
      e ∙ ap (λ (l : List Shape). l ++ s ∷ []) inv ∙ ap (λ (z : Shape). map shape_of (runs (take i xs)) ++ z ∷ []) se
      ∙ sym (shapes_push (take i xs) x)
      ∙ ap (λ (l : List A). map shape_of (runs l)) (ap (λ (k : A). take i xs ++ k ∷ []) is ∙ sym (take_more xs i x lt))

  pub runs_more : (xs : List A) (i : ℕ) (x : A) (start now next : Counts) → i < length xs → x ≡ get_or xs i x
      → counted start (all_events (runs xs)) ≡ counted now (all_events (runs (drop i xs)))
      → next ≡ counted now (run (v x)).events → counted start (all_events (runs xs))
      ≡ counted next (all_events (runs (drop (i + 1) xs)))
  runs_more xs i x start now next lt is inv step =
      let rest = all_events (runs (drop (suc i) xs)) in
      let here = drop-cons xs i x lt ∙ ap (λ (q : A). q ∷ drop (suc i) xs) (sym is) in
      rw add-one (inv ∙ ap (λ (l : List A). counted now (all_events (runs l))) here
      ∙ counted_append now (run (v x)).events rest ∙ ap (λ (c : Counts). counted c rest) (sym step))

  pub runs_length : (xs : List A) → length xs ≡ length (runs xs)
  runs_length [] = refl
  runs_length (x ∷ xs) = ap suc (runs_length xs)

-- the choice after the cases of a match
pub visited_cases : (types : TypeTable) (start mid end : Counts) (vs : List Visit) (ss a b : List Shape) (sort : Sort)
    (h x m n : ℕ) → mid ≡ counted start (all_events vs) → ss ≡ map shape_of vs → a ≡ ss → b ≡ ss → sort ≡ first_sort a
    → h ≡ tallest b → x ≡ cut (choice_extra types sort h) → m ≡ cut (x * n) → n ≡ length vs → end ≡ counted mid (node m)
    → end ≡ counted start (all_events vs ++ node
    (length vs * choice_extra types (first_sort (map shape_of vs)) (tallest (map shape_of vs))))
visited_cases types start mid end vs ss a b sort h x m n me se ae be so he xe mle ne ende =
    let sort_is : sort ≡ first_sort (map shape_of vs) = so ∙ ap first_sort (ae ∙ se) in
    let high_is : h ≡ tallest (map shape_of vs) = he ∙ ap tallest (be ∙ se) in
    let extra = choice_extra types (first_sort (map shape_of vs)) (tallest (map shape_of vs)) in
    let x_is : x ≡ cut extra = xe ∙ ap (λ (z : Sort). cut (choice_extra types z h)) sort_is
    ∙ ap (λ (k : ℕ). cut (choice_extra types (first_sort (map shape_of vs)) k)) high_is in
    let m_is : m ≡ cut (length vs * extra) = mle ∙ ap (λ (k : ℕ). cut (k * n)) x_is ∙ cut_times extra n
    ∙ ap cut (mul_comm extra n) ∙ ap (λ (k : ℕ). cut (k * extra)) ne in
    two start (all_events vs) (node (length vs * extra)) me (node_cut mid end m (length vs * extra) m_is ende)

module _ (types : TypeTable) (calls : Calls) (old env : List Shape) where
  abbrev V : Expr → Visit
  V e = visit_of types calls e old env

  close : (start : Counts) (e f : Expr) (es : List Event) → e ≡ f → (V f).events ≡ es
      → counted start es ≡ counted start (V e).events
  close start e f es is of = ap (counted start) (sym of) ∙ ap (λ (z : Expr). counted start (V z).events) (sym is)

  pub moved : (start end : Counts) (a b : Expr) (scope : List Shape) → a ≡ b → scope ≡ env
      → end ≡ counted start (visit_of types calls a old scope).events → end ≡ counted start (V b).events
  moved start end a b scope g k e =
      e ∙ ap (λ (z : Expr). counted start (visit_of types calls z old scope).events) g
      ∙ ap (λ (s : List Shape). counted start (visit_of types calls b old s).events) k

  pub moved_shape : (s : Shape) (a b : Expr) (scope : List Shape) → a ≡ b → scope ≡ env
      → s ≡ (visit_of types calls a old scope).shape → s ≡ (V b).shape
  moved_shape s a b scope g k e =
      e ∙ ap (λ (z : Expr). (visit_of types calls z old scope).shape) g
      ∙ ap (λ (t : List Shape). (visit_of types calls b old t).shape) k

  pub visited_unary : (start mid end : Counts) (e a a2 : Expr) (op : UnaryOp) (x : ℕ) → e ≡ Unary op a → a2 ≡ a
      → mid ≡ counted start (V a2).events → x ≡ unary_gates op → end ≡ counted mid (node x)
      → end ≡ counted start (V e).events
  visited_unary start mid end e a a2 op x is g m xe n =
      two start (V a).events (node (unary_gates op)) (moved start mid a2 a env g refl m)
      (n ∙ ap (λ (k : ℕ). counted mid (node k)) xe)
      ∙ close start e (Unary op a) _ is (of_unary types calls op a old env)

  pub visited_binary : (start one two_ end : Counts) (e a a2 b b2 : Expr) (op : BinaryOp) (check : Option CheckId)
      (scope : List Shape) (left right : Shape) (x : ℕ) → e ≡ Binary op a b check → a2 ≡ a → b2 ≡ b → scope ≡ env
      → one ≡ counted start (V a2).events → left ≡ (V a2).shape
      → two_ ≡ counted one (visit_of types calls b2 old scope).events
      → right ≡ (visit_of types calls b2 old scope).shape → x ≡ cut (binary_extra types op left right)
      → end ≡ counted two_ (node x) → end ≡ counted start (V e).events
  visited_binary start one two_ end e a a2 b b2 op check scope left right x is ga gb k oe le te re xe n =
      let l = moved_shape left a2 a env ga refl le in
      let r = moved_shape right b2 b scope gb k re in
      let extra = binary_extra types op (V a).shape (V b).shape in
      let x_is : x ≡ cut extra = xe ∙ ap (λ (z : Shape). cut (binary_extra types op z right)) l
      ∙ ap (λ (z : Shape). cut (binary_extra types op (V a).shape z)) r in
      three start (V a).events (V b).events (node extra) (moved start one a2 a env ga refl oe)
      (moved one two_ b2 b scope gb k te) (node_cut two_ end x extra x_is n)
      ∙ close start e (Binary op a b check) _ is (of_binary types calls op a b check old env)

  pub visited_construct : (start one end : Counts) (e : Expr) (c : CtorId) (es es2 : List Expr)
      → e ≡ Construct c es → es2 ≡ es → one ≡ counted start
      (all_events (visits (map (visit_of types calls) es2) old env))
      → end ≡ counted one (look_at (tree_result (slice_get types.ctors c.0)) ++ node 0)
      → end ≡ counted start (V e).events
  visited_construct start one end e c es es2 is g oe n =
      then_both start (all_events (visits (map (visit_of types calls) es) old env))
      (look_at (tree_result (slice_get types.ctors c.0))) (node 0)
      (oe ∙ ap (λ (l : List Expr). counted start (all_events (visits (map (visit_of types calls) l) old env))) g) n
      ∙ close start e (Construct c es) _ is (of_construct types calls c es old env)

  pub visited_field : (start one end : Counts) (e a a2 : Expr) (k : ℕ) (whole : Shape) → e ≡ Field a k → a2 ≡ a
      → one ≡ counted start (V a2).events → whole ≡ (V a2).shape
      → end ≡ counted one (look_at whole.sort ++ node 0) → end ≡ counted start (V e).events
  visited_field start one end e a a2 k whole is g oe we n =
      let w = moved_shape whole a2 a env g refl we in
      then_both start (V a).events (look_at (V a).shape.sort) (node 0) (moved start one a2 a env g refl oe)
      (n ∙ ap (λ (z : Shape). counted one (look_at z.sort ++ node 0)) w)
      ∙ close start e (Field a k) _ is (of_field types calls a k old env)

  pub visited_if : (start one two_ three_ end : Counts) (e c c2 a a2 b b2 : Expr) (scope scope2 : List Shape)
      (left right : Shape) (h x : ℕ) → e ≡ If c a b → c2 ≡ c → a2 ≡ a → b2 ≡ b → scope ≡ env → scope2 ≡ env
      → one ≡ counted start (V c2).events → two_ ≡ counted one (visit_of types calls a2 old scope).events
      → left ≡ (visit_of types calls a2 old scope).shape
      → three_ ≡ counted two_ (visit_of types calls b2 old scope2).events
      → right ≡ (visit_of types calls b2 old scope2).shape → h ≡ max left.height right.height
      → x ≡ cut (choice_extra types left.sort h) → end ≡ counted three_ (node x) → end ≡ counted start (V e).events
  visited_if start one two_ three_ end e c c2 a a2 b b2 scope scope2 left right h x is gc ga gb k k2 oe te le he3 re he
      xe n =
      let l = moved_shape left a2 a scope ga k le in
      let r = moved_shape right b2 b scope2 gb k2 re in
      let extra = choice_extra types (V a).shape.sort (max (V a).shape.height (V b).shape.height) in
      let x_is : x ≡ cut extra = xe ∙ ap (λ (j : ℕ). cut (choice_extra types left.sort j)) he
      ∙ ap (λ (z : Shape). cut (choice_extra types z.sort (max z.height right.height))) l
      ∙ ap (λ (z : Shape). cut (choice_extra types (V a).shape.sort (max (V a).shape.height z.height))) r in
      four start (V c).events (V a).events (V b).events (node extra) (moved start one c2 c env gc refl oe)
      (moved one two_ a2 a scope ga k te) (moved two_ three_ b2 b scope2 gb k2 he3)
      (node_cut three_ end x extra x_is n)
      ∙ close start e (If c a b) _ is (of_if types calls c a b old env)

  pub visited_match : (start one : Counts) (e a a2 : Expr) (cs cs2 : List Case) (check : Option CheckId)
      (scope : List Shape) (s : Shape) → e ≡ Match a cs check → a2 ≡ a → cs2 ≡ cs → scope ≡ env
      → one ≡ counted start (V a2).events → s ≡ (V a2).shape
      → counted one (matched types (arms (map (visit_case types calls) cs2) s old scope)).events
      ≡ counted start (V e).events
  visited_match start one e a a2 cs cs2 check scope s is g gc k oe se =
      let all = λ (l : List Case) (z : Shape) (v : List Shape).
      (matched types (arms (map (visit_case types calls) l) z old v)).events in
      ap (λ (l : List Case). counted one (all l s scope)) gc
      ∙ ap (λ (z : Shape). counted one (all cs z scope)) (moved_shape s a2 a env g refl se)
      ∙ ap (λ (v : List Shape). counted one (all cs (V a).shape v)) k
      ∙ two start (V a).events (all cs (V a).shape env) (moved start one a2 a env g refl oe) refl
      ∙ close start e (Match a cs check) _ is (of_match types calls a cs check old env)

  pub visited_val : (start one two_ end : Counts) (e a a2 r r2 : Expr) (scope wide : List Shape) (s : Shape)
      → e ≡ Val a r → a2 ≡ a → r2 ≡ r → scope ≡ env → wide ≡ scope ++ s ∷ [] → one ≡ counted start (V a2).events
      → s ≡ (V a2).shape → two_ ≡ counted one (visit_of types calls r2 old wide).events → end ≡ counted two_ (node 0)
      → end ≡ counted start (V e).events
  visited_val start one two_ end e a a2 r r2 scope wide s is ga gr k w oe se te n =
      let inner = env ++ (V a).shape ∷ [] in
      let wide_is : wide ≡ inner = w ∙ ap (λ (l : List Shape). l ++ s ∷ []) k
      ∙ ap (λ (z : Shape). env ++ z ∷ []) (moved_shape s a2 a env ga refl se) in
      let rest : two_ ≡ counted one (visit_of types calls r old inner).events = te
      ∙ ap (λ (z : Expr). counted one (visit_of types calls z old wide).events) gr
      ∙ ap (λ (l : List Shape). counted one (visit_of types calls r old l).events) wide_is in
      three start (V a).events (visit_of types calls r old inner).events (node 0) (moved start one a2 a env ga refl oe)
      rest n
      ∙ close start e (Val a r) _ is (of_val types calls a r old env)

  pub visited_assert : (start one two_ end : Counts) (e c c2 r r2 : Expr) (check : CheckId) (scope : List Shape)
      → e ≡ Assert check c r → c2 ≡ c → r2 ≡ r → scope ≡ env → one ≡ counted start (V c2).events
      → two_ ≡ counted one (visit_of types calls r2 old scope).events → end ≡ counted two_ (node 0)
      → end ≡ counted start (V e).events
  visited_assert start one two_ end e c c2 r r2 check scope is gc gr k oe te n =
      three start (V c).events (V r).events (node 0) (moved start one c2 c env gc refl oe)
      (moved one two_ r2 r scope gr k te) n
      ∙ close start e (Assert check c r) _ is (of_assert types calls check c r old env)

  pub visited_call : (start one two_ : Counts) (e : Expr) (g : FunctionId) (es es2 : List Expr)
      (pre measure : Option CheckId) (ss ss2 : List Shape) → e ≡ Call g es pre measure → es2 ≡ es
      → one ≡ counted start (all_events (visits (map (visit_of types calls) es2) old env))
      → ss ≡ map shape_of (visits (map (visit_of types calls) es2) old env) → ss2 ≡ ss
      → two_ ≡ counted one (node 0 ++ called g ∷ [])
      → counted two_ (calls g measure old ss2).events ≡ counted start (V e).events
  visited_call start one two_ e g es es2 pre measure ss ss2 is ge oe se s2 te =
      let args = map shape_of (visits (map (visit_of types calls) es) old env) in
      let args_are : ss2 ≡ args = s2 ∙ se ∙ ap
      (λ (l : List Expr). map shape_of (visits (map (visit_of types calls) l) old env)) ge in
      let before = all_events (visits (map (visit_of types calls) es) old env) in
      let first : one ≡ counted start before = oe
      ∙ ap (λ (l : List Expr). counted start (all_events (visits (map (visit_of types calls) l) old env))) ge in
      ap (λ (l : List Shape). counted two_ (calls g measure old l).events) args_are
      ∙ two start (before ++ node 0 ++ called g ∷ []) (calls g measure old args).events
      (then_both start before (node 0) (called g ∷ []) first te) refl
      ∙ ap (counted start) (append_assoc (before ++ node 0) (called g ∷ []) (calls g measure old args).events)
      ∙ close start e (Call g es pre measure) _ is (of_call types calls g es pre measure old env)

  case_is : (s : Shape) (p : Pattern) (g : Option Expr) (b : Expr)
      → arm_step types (map-Case Expr Case Visiting Arm (visit_of types calls) (visit_case types calls)
      (record { pattern = p; guard = g; body = b })) s old env
      ≡ arm_step types (record {
        pattern = p;
        guard = option_map (visit_of types calls) g;
        body = visit_of types calls
            b;
      }) s old env
  case_is s p None b = refl
  case_is s p (Some g) b = refl

  of_case : (c : Case) (s : Shape) → visit_case types calls c s old env
      ≡ arm_step types (record {
        pattern = c.pattern;
        guard = option_map (visit_of types calls) c.guard;
        body = visit_of
            types calls c.body;
      }) s old env
  of_case c s =
      ap (λ (f : Arm). f s old env) (fold_out-Case Visiting Arm (visit_step types calls) (arm_step types) c)
      ∙ case_is s c.pattern c.guard c.body

  pub case_shape : (c : Case) (s r : Shape) (wide scope : List Shape) → wide ≡ env ++ bound types.ctors c.pattern s
      → scope ≡ wide → r ≡ (visit_of types calls c.body old scope).shape
      → r ≡ (visit_case types calls c s old env).shape
  case_shape c s r wide scope w k e =
      e ∙ ap (λ (l : List Shape). (visit_of types calls c.body old l).shape) (k ∙ w) ∙ ap shape_of (sym (of_case c s))

  pub visited_case : (start one two_ end : Counts) (c : Case) (s : Shape) (wide scope : List Shape)
      → wide ≡ env ++ bound types.ctors c.pattern s → scope ≡ wide
      → one ≡ counted start (pattern_events types.ctors c.pattern)
      → two_ ≡ counted one (guard_events (option_map (visit_of types calls) c.guard) old wide)
      → end ≡ counted two_ (visit_of types calls c.body old scope).events
      → end ≡ counted start (visit_case types calls c s old env).events
  visited_case start one two_ end c s wide scope w k oe te n =
      let inner = env ++ bound types.ctors c.pattern s in
      three start (pattern_events types.ctors c.pattern)
      (guard_events (option_map (visit_of types calls) c.guard) old inner)
      (visit_of types calls c.body old inner).events oe
      (te ∙ ap (λ (l : List Shape). counted one (guard_events (option_map (visit_of types calls) c.guard) old l)) w)
      (n ∙ ap (λ (l : List Shape). counted two_ (visit_of types calls c.body old l).events) (k ∙ w))
      ∙ ap (λ (v : Visit). counted start v.events) (sym (of_case c s))
