-- What patterns bind and weigh, and components that are compared, one after another.
use Rattle.std.proofs.Common.{◌≡◌, ◌<◌, ◌+◌, ℕ, zero, suc, List, [], ◌∷◌, ◌++◌, map, drop, length, get_or, Some, None}
use Rattle.std.proofs.Common.{slice_get, refl, sym, ap, ◌∙◌, append_assoc, add-one, drop-cons}
use Rattle.std.proofs.lemmas.List.{append-nil}
use Rattle.pp_list.specs.Joined.{joined}
use Rattle.pp_prog.specs.declared.expr.Pattern.{Pattern}
use Rattle.pp_prog.specs.declared.sort.Sort.{Sort}
use Rattle.pp_prog.specs.declared.types.TypeTable.{TypeTable}
use Rattle.pp_estimate.specs.declared.counts.Counts.{Counts}
use Rattle.pp_estimate.specs.declared.shape.Shape.{Shape}
use Rattle.pp_estimate.specs.Counted.{counted}
use Rattle.pp_estimate.specs.Events.{Event}
use Rattle.pp_estimate.specs.Visits.{Binding, bind_each, component_events, comparison, part}
use Rattle.pp_estimate.proofs.Merged.{counted_append}
use Rattle.pp_checks.proofs.Binding.{drop_one, past_end}

module _ (w : Shape) where
  bind_none : (bs : List Binding) → bind_each w bs [] ≡ []
  bind_none [] = refl
  bind_none (b ∷ bs) = refl

  bind_first : (b : Binding) (bs : List Binding) (ss : List Sort)
      → bind_each w (b ∷ bs) ss ≡ bind_each w (b ∷ []) ss ++ bind_each w bs (drop 1 ss)
  bind_first b bs [] = sym (bind_none bs)
  bind_first b bs (s ∷ ss) = ap (λ (l : List Shape). l ++ bind_each w bs ss) (sym (append-nil (b (part w s))))

  -- one pattern more
  pub bind_more : (f : Pattern → Binding) (ps : List Pattern) (ss : List Sort) (i : ℕ) (p : Pattern)
      (start scope next : List Shape) → i < length ps → p ≡ get_or ps i p
      → start ++ bind_each w (map f ps) ss ≡ scope ++ bind_each w (map f (drop i ps)) (drop i ss)
      → next ≡ scope ++ bind_each w (f p ∷ []) (drop i ss)
      → start ++ bind_each w (map f ps) ss ≡ next ++ bind_each w (map f (drop (i + 1) ps)) (drop (i + 1) ss)
  bind_more f ps ss i p start scope next lt is inv step =
      let now = drop-cons ps i p lt ∙ ap (λ (q : Pattern). q ∷ drop (suc i) ps) (sym is) in
      let later = ap (λ (l : List Pattern). scope ++ bind_each w (map f l) (drop i ss)) now in
      let split = ap (λ (l : List Shape). scope ++ l) (bind_first (f p) (map f (drop (suc i) ps)) (drop i ss)) in
      let over = ap (λ (l : List Sort). scope ++ (bind_each w (f p ∷ []) (drop i ss)
      ++ bind_each w (map f (drop (suc i) ps)) l)) (drop_one i ss) in
      rw add-one (inv ∙ later ∙ split ∙ over ∙ sym
      (append_assoc scope (bind_each w (f p ∷ []) (drop i ss))
      (bind_each w (map f (drop (suc i) ps)) (drop (suc i) ss)))
      ∙ ap (λ (l : List Shape). l ++ bind_each w (map f (drop (suc i) ps)) (drop (suc i) ss)) (sym step))

  pub bind_past : (b : Binding) (ss : List Sort) (i : ℕ) → slice_get ss i ≡ None → bind_each w (b ∷ []) (drop i ss) ≡ []
  bind_past b ss i is = ap (λ (l : List Sort). bind_each w (b ∷ []) l) (past_end ss i is)

  pub bind_here : (b : Binding) (ss : List Sort) (i : ℕ) (s : Sort) → slice_get ss i ≡ Some s
      → bind_each w (b ∷ []) (drop i ss) ≡ b (part w s)
  bind_here b [] i s is = let no : None ≡ Some s = is in cc
  bind_here b (t ∷ ss) zero s is =
      let same : t ≡ s = (let both : Some t ≡ Some s = is in cc) in append-nil (b (part w t))
      ∙ ap (λ (z : Sort). b (part w z)) same
  bind_here b (t ∷ ss) (suc i) s is = bind_here b ss i s is

-- the events of one pattern more
pub events_more : (f : Pattern → List Event) (ps : List Pattern) (i : ℕ) (p : Pattern) (start now next : Counts)
    → i < length ps → p ≡ get_or ps i p → counted start (joined (map f ps)) ≡ counted now (joined (map f (drop i ps)))
    → next ≡ counted now (f p) → counted start (joined (map f ps)) ≡ counted next (joined (map f (drop (i + 1) ps)))
events_more f ps i p start now next lt is inv step =
    let rest = joined (map f (drop (suc i) ps)) in
    let here = drop-cons ps i p lt ∙ ap (λ (q : Pattern). q ∷ drop (suc i) ps) (sym is) in
    rw add-one (inv ∙ ap (λ (l : List Pattern). counted now (joined (map f l))) here ∙ counted_append now (f p) rest
    ∙ ap (λ (c : Counts). counted c rest) (sym step))

module _ (types : TypeTable) where
  compare_none : (ns : List Shape) → comparison types ns [] ≡ []
  compare_none [] = refl
  compare_none (n ∷ ns) = refl

  compare_first : (n : Shape) (ns os : List Shape)
      → comparison types (n ∷ ns) os ≡ comparison types (n ∷ []) os ++ comparison types ns (drop 1 os)
  compare_first n ns [] = sym (compare_none ns)
  compare_first n ns (o ∷ os) = ap (λ (l : List Event). l ++ comparison types ns os)
      (sym (append-nil (component_events types n.sort n.height o.height)))

  drop_one_shape : (i : ℕ) (ss : List Shape) → drop 1 (drop i ss) ≡ drop (suc i) ss
  drop_one_shape zero ss = refl
  drop_one_shape (suc i) [] = refl
  drop_one_shape (suc i) (s ∷ ss) = drop_one_shape i ss

  -- one component more
  pub compare_more : (ns os : List Shape) (i : ℕ) (n d : Shape) (start now next : Counts) → i < length ns
      → n ≡ get_or ns i d → counted start (comparison types ns os)
      ≡ counted now (comparison types (drop i ns) (drop i os))
      → next ≡ counted now (comparison types (n ∷ []) (drop i os))
      → counted start (comparison types ns os) ≡ counted next (comparison types (drop (i + 1) ns) (drop (i + 1) os))
  compare_more ns os i n d start now next lt is inv step =
      let rest = comparison types (drop (suc i) ns) (drop (suc i) os) in
      let here = drop-cons ns i d lt ∙ ap (λ (q : Shape). q ∷ drop (suc i) ns) (sym is) in
      let split = compare_first n (drop (suc i) ns) (drop i os)
      ∙ ap (λ (l : List Shape). comparison types (n ∷ []) (drop i os) ++ comparison types (drop (suc i) ns) l)
      (drop_one_shape i os) in
      rw add-one (inv ∙ ap (λ (l : List Shape). counted now (comparison types l (drop i os))) here
      ∙ ap (counted now) split ∙ counted_append now (comparison types (n ∷ []) (drop i os)) rest
      ∙ ap (λ (c : Counts). counted c rest) (sym step))

  shape_past : (ss : List Shape) (i : ℕ) → slice_get ss i ≡ None → drop i ss ≡ []
  shape_past [] zero is = refl
  shape_past [] (suc i) is = refl
  shape_past (s ∷ ss) zero is = let no : Some s ≡ None = is in cc
  shape_past (s ∷ ss) (suc i) is = shape_past ss i is

  pub compare_past : (n : Shape) (os : List Shape) (i : ℕ) → slice_get os i ≡ None
      → comparison types (n ∷ []) (drop i os) ≡ []
  compare_past n os i is = ap (λ (l : List Shape). comparison types (n ∷ []) l) (shape_past os i is)

  pub compare_here : (n : Shape) (os : List Shape) (i : ℕ) (o : Shape) → slice_get os i ≡ Some o
      → comparison types (n ∷ []) (drop i os) ≡ component_events types n.sort n.height o.height
  compare_here n [] i o is = let no : None ≡ Some o = is in cc
  compare_here n (p ∷ os) zero o is =
      let same : p ≡ o = (let both : Some p ≡ Some o = is in cc) in
      append-nil (component_events types n.sort n.height p.height)
      ∙ ap (λ (z : Shape). component_events types n.sort n.height z.height) same
  compare_here n (p ∷ os) (suc i) o is = compare_here n os i o is
