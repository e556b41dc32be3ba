-- Components of measures that go down, on symbols.
use Rattle.std.proofs.Common.{◌≡◌, ℕ, ◌+◌, List, [], ◌∷◌, length, Bool, true, false, if◌then◌else◌, not, refl, sym, ap}
use Rattle.std.proofs.Common.{◌∙◌, subst, arith}
use Rattle.std.proofs.lemmas.Bool.{false≢true}
use Rattle.std.specs.Prelude.{pos, ◌&&◌, ◌||◌, int_le, int_lt}
use Rattle.std.specs.Int.{w32}
use Rattle.pp_prog.specs.declared.id.DataId.{DataId}
use Rattle.pp_prog.specs.declared.sort.Sort.{Sort}
use Rattle.pp_prog.specs.declared.sort.Sort.TheVariants as sort
use Rattle.pp_prog.specs.declared.types.Ctor.{Ctor}
use Rattle.pp_prog.specs.declared.types.TypeTable.{TypeTable}
use Rattle.pp_prog.specs.declared.value.Value.{Value}
use Rattle.pp_prog.specs.declared.value.Value.TheFolds.{fold_out-Value, map-Value}
use Rattle.pp_prog.specs.declared.value.Value.TheOpen as layer
use Rattle.pp_prog.specs.declared.value.Value.TheVariants.{Int, Bool as Truth}
use Rattle.pp_prog.specs.declared.value.Value.TheViews.{out-Value}
use Rattle.pp_prog.specs.Sorts.{has_sort, has_step}
use Rattle.pp_prog.specs.Values.{IsBelow}
use Rattle.pp_clause.specs.Literal.{Literal, lit_value, opposite}
use Rattle.pp_gate.specs.declared.gate.Gate.{Gate}
use Rattle.pp_gate.specs.Circuit.{IsCircuit, IsInput, IsOf, StandsFor}
use Rattle.pp_gate.proofs.Agreement.{agree_along, lit_agree}
use Rattle.pp_gate.proofs.Extension.{growth_extends}
use Rattle.pp_gate.proofs.Growing.{Grows_more, IsOf_more, length-Grows}
use Rattle.pp_gate.specs.Growth.{AddsGates, Grows}
use Rattle.pp_bits.proofs.Growing.{AddsGates_none, IsOf_opposite}
use Rattle.pp_bits.proofs.Numbers.{lit_value_negated}
use Rattle.pp_wordgate.specs.Meaning.{word_of}
use Rattle.pp_domain.specs.declared.symbol.Symbol.{Symbol}
use Rattle.pp_domain.specs.declared.symbol.Symbol.TheVariants as symbol
use Rattle.pp_domain.specs.Answers.{IsComparison}
use Rattle.pp_domain.specs.Laws.{Lawful}
use Rattle.pp_domain.specs.Moves.{Moves, OneComparison}
use Rattle.pp_domain.specs.Naming.{Naming}
use Rattle.pp_domain.specs.Sense.{Extended, Good, Inexact, Sense}
use Rattle.pp_domain.proofs.AnySort.{Moves_gates}
use Rattle.pp_domain.proofs.Composition.{Extended_grown, Extended_more, Extended_none, Moves_grown, Moves_more}
use Rattle.pp_domain.proofs.Composition.{Moves_none, Moves_weaker, Stands_later}
use Rattle.pp_domain.specs.Allowance.{below_gates}
use Rattle.pp_build_operators.specs.Budget.{tree_down_gates}
use Rattle.pp_domain.proofs.Symbols.{SymbolStands_later}
use Rattle.pp_domain.specs.Symbols.{IsSymbol, SymbolsStand}
use Rattle.pp_eval.specs.Equality.{below}
use Rattle.pp_eval.specs.Measure.{goes_down, layer_down}
use Rattle.pp_eval.proofs.Trees.{one_answer, trees}
use Rattle.pp_build_operators.specs.Operated.{ChoosesDescent, CountsOne, IsCompared, IsDescent, IsMade, MeansDescent}
use Rattle.pp_build_operators.specs.Operated.{StandsAs}
use Rattle.pp_build_operators.proofs.Results.{truth_made, truth_stands}
use Rattle.pp_build_operators.proofs.Values.{number_down, truth_stays}

-- what is told or else is chosen
told_or_chosen : (told chosen down : Bool) → (told ≡ true → down ≡ true) → chosen ≡ down → (told || chosen) ≡ down
told_or_chosen true chosen down tells is = sym (tells refl)
told_or_chosen false chosen down tells is = is

module _ (ctors : List Ctor) where
  -- the layer has the sort
  abbrev LayerHas : layer.Value-F Value → Sort → Type 0
  LayerHas o s = has_step ctors (map-Value Value (Sort → Bool) (has_sort ctors) o) s ≡ true

  layer_has : (v : Value) (s : Sort) → has_sort ctors v s ≡ true → LayerHas (out-Value v) s
  layer_has v s h = sym (ap (λ (f : Sort → Bool). f s) (fold_out-Value (Sort → Bool) (has_step ctors) v)) ∙ h

  layers_down : (d : DataId) (vs : Value × Value) (o q : layer.Value-F Value) → LayerHas o (sort.Tree d)
      → LayerHas q (sort.Tree d) → layer_down vs o q ≡ below vs.0 vs.1
  layers_down d vs (layer.Tree c fields) (layer.Tree b others) one other = refl
  layers_down d vs (layer.Tree c fields) (layer.Int n) one other = absurd (cc)
  layers_down d vs (layer.Tree c fields) (layer.Bool b) one other = absurd (cc)
  layers_down d vs (layer.Int n) q one other = absurd (cc)
  layers_down d vs (layer.Bool b) q one other = absurd (cc)

  -- a tree goes down to its proper subtrees
  tree_down : (d : DataId) (v w : Value) → has_sort ctors v (sort.Tree d) ≡ true → has_sort ctors w (sort.Tree d) ≡ true
      → goes_down v w ≡ below v w
  tree_down d v w one other =
      layers_down d (v, w) (out-Value v) (out-Value w) (layer_has v (sort.Tree d) one) (layer_has w (sort.Tree d) other)

module _ {D T : Type 0} (m : Sense D T) (types : TypeTable) where
  -- what stands for a truth value whatever the assignment is, goes on
  stands_on : (d e : D) (gs hs : List Gate) (k : ℕ) (n : Naming) (a : ℕ → Bool) (s : Sort) (x : Symbol T) (v : Value)
      → Moves m types d gs e hs k → IsSymbol m d gs s x → (y : Extended m types gs n a e hs)
      → StandsAs m types d a n s x v → StandsAs m types e y.next n s x v
  stands_on d e gs hs k n a s x v moves is y stands = record {
    stands = SymbolStands_later m types d e gs hs k n a y.next s x v moves is y.agree stands.stands;
    sorted = stands.sorted;
  }

  -- without a comparison of trees
  CountsOne_none : (d : D) (s : Sort) → CountsOne m d d s
  CountsOne_none d s = record { looks = refl; compares = omega arith }

  -- a comparison without trees tells as well as it is chosen
  told_descent : (d e : D) (gs hs : List Gate) (k : ℕ) (s : Sort) (new old r : Symbol T) → Moves m types d gs e hs k
      → IsSymbol m d gs s new → IsSymbol m d gs s old
      → ((n : Naming) (a : ℕ → Bool) → Good m types d gs n a → Extended m types gs n a e hs)
      → MeansDescent m types e hs s new old r → ChoosesDescent m types d gs e hs s new old r
  told_descent d e gs hs k s new old r moves one two extends means inexact n a v w good first second =
      let y = extends n a good in (
        y,
        (means n y.next v w y.good (stands_on d e gs hs k n a s new v moves one y first)
            (stands_on d e gs hs k n a s old w moves two y second)).stands,
      )

  pub number_descent : Lawful m → (d : D) (gs hs : List Gate) (k : ℕ) (a b : List Literal) (r : Literal)
      → m.Fits types d gs → AddsGates gs hs k
      → StandsFor hs r (λ s. int_le (pos 0) (word_of w32 s a) && int_lt (word_of w32 s a) (word_of w32 s b))
      → IsDescent m types d gs d hs (symbol.Word a) (symbol.Word b) (symbol.Bit r)
  number_descent law d gs hs k a b r fits adds is = λ s one two.
      let made = truth_made m types law (symbol.Word a ∷ symbol.Word b ∷ []) d gs hs k r fits adds is.of in
      let means : MeansDescent m types d hs s (symbol.Word a) (symbol.Word b) (symbol.Bit r) = λ n a' v w good first
      second.
      truth_stands m types d a' n r (Truth (goes_down v w))
      (ap Truth (ap (λ (x : Value). goes_down x w) first.stands
      ∙ ap (λ (y : Value). goes_down (Int (word_of w32 a' a)) y) second.stands
      ∙ number_down (word_of w32 a' a) (word_of w32 a' b) ∙ sym (is.value a' good.gates))) in (
        made,
        λ compared. means,
        told_descent d d gs hs k s (symbol.Word a) (symbol.Word b) (symbol.Bit r)
            (Moves_gates m types law d gs hs k fits adds) one two
            (λ n a' good. Extended_grown m types law d gs hs k n a' a' fits adds.grows adds.circuit good) means,
        λ inexact. CountsOne_none d s,
      )

  -- a truth value never goes down
  pub truth_descent : Lawful m → (d : D) (gs : List Gate) (a b t r : Literal) → m.Fits types d gs
      → StandsFor gs t (λ s. true) → r ≡ opposite t
      → IsDescent m types d gs d gs (symbol.Bit a) (symbol.Bit b) (symbol.Bit r)
  truth_descent law d gs a b t r fits is turned = λ s one two.
      let none = AddsGates_none gs 0 (law.circuit types d gs fits) in
      let made = truth_made m types law (symbol.Bit a ∷ symbol.Bit b ∷ []) d gs gs 0 r fits none
      (subst (λ (l : Literal). IsOf gs l) (sym turned) (IsOf_opposite gs t is.of)) in
      let means : MeansDescent m types d gs s (symbol.Bit a) (symbol.Bit b) (symbol.Bit r) = λ n a' v w good first
      second.
      truth_stands m types d a' n r (Truth (goes_down v w))
      (ap Truth (ap (λ (x : Value). goes_down x w) first.stands ∙ truth_stays (lit_value a' a) w
      ∙ sym (lit_value_negated a' r t turned ∙ ap not (is.value a' good.gates)))) in (
        made,
        λ compared. means,
        told_descent d d gs gs 0 s (symbol.Bit a) (symbol.Bit b) (symbol.Bit r)
            (Moves_none m types law d gs fits) one two
            (λ n a' good. Extended_none m types d gs n a' good) means,
        λ inexact. CountsOne_none d s,
      )

  -- the gates of a comparison of trees
  exact_gates : m.exact ≡ true → (d : D) (t u : T) → below_gates m types d t u ≡ tree_down_gates m types d t u
  exact_gates exact d t u =
      sym (ap (λ (b : Bool). below_gates m types d t u + (if b then 0 else 2)) exact
      ∙ plus_zero (below_gates m types d t u))
    where
      plus_zero : (n : ℕ) → n + 0 ≡ n
      plus_zero n = omega arith

  inexact_gates : m.exact ≡ false → (d : D) (t u : T) → below_gates m types d t u + 2 ≡ tree_down_gates m types d t u
  inexact_gates inexact d t u = sym (ap (λ (b : Bool). below_gates m types d t u + (if b then 0 else 2)) inexact)

  -- what a comparison leaves, in an exact domain, and in front of more inputs and gates in another one
  pub compared_moves : (d e : D) (gs hs : List Gate) (t u : T) → Moves m types d gs e hs (below_gates m types d t u)
      → Moves m types d gs e hs (tree_down_gates m types d t u)
  compared_moves d e gs hs t u moves =
      Moves_weaker m types d e gs hs (below_gates m types d t u) (tree_down_gates m types d t u) moves (omega arith)

  pub freed_moves : Lawful m → m.exact ≡ false → (d e : D) (gs fs hs : List Gate) (t u : T)
      → Moves m types d gs e fs (below_gates m types d t u) → Grows fs hs 2 → IsCircuit hs
      → Moves m types d gs e hs (tree_down_gates m types d t u)
  freed_moves law inexact d e gs fs hs t u moves grows circuit =
      let same = inexact_gates inexact d t u in
      Moves_more m types d e e gs fs hs (below_gates m types d t u) 2 (tree_down_gates m types d t u) moves
      (Moves_grown m types law e fs hs 2 moves.fits grows circuit) (omega arith)

  -- trees go down to their proper subtrees
  subtree_down : (of : DataId) (v w : Value) → has_sort types.ctors v (sort.Tree of) ≡ true
      → has_sort types.ctors w (sort.Tree of) ≡ true → IsBelow v w → goes_down v w ≡ true
  subtree_down of v w one other is = tree_down types.ctors of v w one other ∙ (trees.subtree v w).1 is

  pub tree_descent : m.exact ≡ true → (d e : D) (gs hs : List Gate) (t u : T) (l : Literal)
      → IsComparison m types d gs e hs t u l
      → IsDescent m types d gs e hs (symbol.Tree t) (symbol.Tree u) (symbol.Bit l)
  tree_descent exact d e gs hs t u l is = λ s one two. at s one
    where
      never : {P : Type 0} → m.exact ≡ false → P
      never inexact = absurd (false≢true (sym inexact ∙ exact))

      at : (s : Sort) → IsSymbol m d gs s (symbol.Tree t)
          → IsMade m types d gs (symbol.Tree t ∷ symbol.Tree u ∷ []) e hs sort.Bool (symbol.Bit l)
          × (IsCompared m types s → MeansDescent m types e hs s (symbol.Tree t) (symbol.Tree u) (symbol.Bit l))
          × ChoosesDescent m types d gs e hs s (symbol.Tree t) (symbol.Tree u) (symbol.Bit l)
          × Inexact m (CountsOne m d e s)
      at (sort.Tree of) one = (
        record { of = is.of; low = refl; extends = λ n a good any. is.extends n a good never },
        λ compared n a v w good first second.
            truth_stands m types e a n l (Truth (goes_down v w))
            (ap Truth (tree_down types.ctors of v w first.sorted second.sorted
            ∙ one_answer (IsBelow v w) (below v w) (lit_value a l) (trees.subtree v w) (
              is.sound n a v w good first.stands second.stands,
              is.exact exact n a v w good first.stands second.stands,
            ))),
        never,
        never,
      )
      at sort.Int one = absurd one
      at sort.Bool one = absurd one

  -- the values of two trees
  two_values : (d : D) (a : ℕ → Bool) (n : Naming) (t u : T) (vs : List Value)
      → SymbolsStand m d a n (symbol.Tree t ∷ symbol.Tree u ∷ []) vs
      → (v w : Value) × m.Stands d a n t v × m.Stands d a n u w
  two_values d a n t u [] stand = absurd stand
  two_values d a n t u (v ∷ []) stand = absurd stand.1
  two_values d a n t u (v ∷ w ∷ []) stand = (v, w, stand.0, stand.1.0)
  two_values d a n t u (v ∷ w ∷ x ∷ vs) stand = absurd stand.1.1

  -- a comparison of trees or a new input, in a domain that isn't exact
  pub free_descent : Lawful m → m.exact ≡ false → (d e : D) (gs fs ps hs : List Gate) (k : ℕ) (t u : T)
      (told free l : Literal) → Moves m types d gs e fs k → OneComparison m d e
      → IsComparison m types d gs e fs t u told → Grows fs ps 1 → IsCircuit ps → IsOf ps free → IsInput ps free.var
      → free.var ≡ length fs + 1 → ((s : ℕ → Bool) → lit_value s free ≡ s (length fs + 1)) → AddsGates ps hs 1
      → StandsFor hs l (λ s. lit_value s told || lit_value s free)
      → IsDescent m types d gs e hs (symbol.Tree t) (symbol.Tree u) (symbol.Bit l)
  free_descent law inexact d e gs fs ps hs k t u told free l moves once is grows circuit of input var means adds =
      λ either s one two. at either s one two
    where
      fits : m.Fits types e ps
      fits = law.grows types e fs ps 1 moves.fits grows circuit

      both : Grows fs hs 2
      both = Grows_more fs ps hs 1 1 2 grows adds.grows (omega arith)

      at : StandsFor hs l (λ s. lit_value s told || lit_value s free) → (s : Sort)
          → IsSymbol m d gs s (symbol.Tree t) → IsSymbol m d gs s (symbol.Tree u)
          → IsMade m types d gs (symbol.Tree t ∷ symbol.Tree u ∷ []) e hs sort.Bool (symbol.Bit l)
          × (IsCompared m types s → MeansDescent m types e hs s (symbol.Tree t) (symbol.Tree u) (symbol.Bit l))
          × ChoosesDescent m types d gs e hs s (symbol.Tree t) (symbol.Tree u) (symbol.Bit l)
          × Inexact m (CountsOne m d e s)
      at either (sort.Tree o) one two = (
        record {
          of = either.of;
          low = refl;
          extends = λ n a good any.
              let x = is.extends n a good (λ i. two_values d a n t u (any i).0 (any i).1) in
              Extended_more m types e e gs fs hs k n a moves.grows x
              (Extended_grown m types law e fs hs 2 n x.next x.next moves.fits both adds.circuit x.good);
        },
        λ compared. absurd (false≢true (sym inexact ∙ compared o refl)),
        λ not_exact n a v w good first second.
            let down = goes_down v w in
            let x = is.extends n a good (λ i. (v, w, first.stands, second.stands)) in
            let y = growth_extends fs ps 1 grows circuit x.next (λ k. down) x.good.gates in
            let over : Extended m types fs n x.next e ps = record {
              next = y.assignment;
              agree = y.keeps;
              good = record {
                gates = y.gives;
                ok = sym (lit_agree (length fs) x.next y.assignment (m.ok e) (law.ok_of types e fs moves.fits) y.keeps)
                    ∙ x.good.ok;
                matches = law.matches types e fs n x.next y.assignment moves.fits y.keeps x.good.matches;
                admitted = x.good.admitted;
              };
            } in
            let last = Extended_grown m types law e ps hs 1 n over.next over.next fits adds.grows adds.circuit over.good
            in
            let first_longer = (length-Grows gs fs k moves.grows).0 in
            let longer = (length-Grows fs ps 1 grows).0 in
            let whole : Extended m types gs n a e hs = record {
              next = last.next;
              agree = agree_along (length gs) (length ps) a over.next last.next (omega arith)
                  (agree_along (length gs) (length fs) a x.next over.next first_longer x.agree over.agree) last.agree;
              good = last.good;
            } in (
              whole,
              ap Truth (sym (either.value last.next last.good.gates
                  ∙ told_or_chosen (lit_value last.next told) (lit_value last.next free) down
                  (λ on. subtree_down o v w first.sorted second.sorted
                  (is.sound n x.next v w x.good (Stands_later m types d e gs fs k n a x t v moves one.0 first.stands)
                  (Stands_later m types d e gs fs k n a x u w moves two.0 second.stands)
                  (lit_agree (length fs) x.next over.next told is.of over.agree
                  ∙ lit_agree (length ps) over.next last.next told (IsOf_more fs ps 1 told grows is.of) last.agree
                  ∙ on)))
                  (sym (lit_agree (length ps) over.next last.next free of last.agree) ∙ means over.next
                  ∙ ap over.next (sym var) ∙ sym (y.inputs free.var (omega arith) input)))),
            ),
        λ not_exact. record { looks = once.looks; compares = once.compares },
      )
      at either sort.Int one two = absurd one
      at either sort.Bool one two = absurd one
