-- Each round of a guess run is well sorted in a program that has a plan.
use Rattle.std.proofs.Common.{◌≡◌, ℕ, zero, suc, ◌+◌, Bool, true, false, List, [], ◌∷◌, ◌++◌, length, map, Some, refl}
use Rattle.std.proofs.Common.{sym, ap, ◌∙◌, subst}
use Rattle.std.specs.Prelude.{nat_eq, nat_lt, if◌then◌else◌, slice_get}
use Rattle.std.specs.List.{list_all}
use Rattle.std.proofs.lemmas.Bool.{and_parts, eqb-true}
use Rattle.pp_tree.specs.declared.operator.BinaryOp.TheVariants.{Equal}
use Rattle.pp_prog.specs.declared.expr.Function.{Function}
use Rattle.pp_prog.specs.declared.id.CheckId.{CheckId}
use Rattle.pp_prog.specs.declared.program.Program.{Program}
use Rattle.pp_prog.specs.declared.sort.Sort.{Sort}
use Rattle.pp_prog.specs.declared.sort.Sort.TheVariants as sort
use Rattle.pp_prog.specs.Sorts.{param_sorts}
use Rattle.pp_prog.specs.Table.{is_sort}
use Rattle.pp_prog.specs.Valid.{is_in_range}
use Rattle.pp_prog.proofs.Sure.{is_valid}
use Rattle.pp_checks.specs.Plan.{IsPlanOf, Plan}
use Rattle.pp_sound.proofs.Listed.{all_at}
use Rattle.pp_steps.proofs.Counting.{zero_plus}
use Rattle.pp_steps.specs.declared.step.Step.TheVariants as steps
use Rattle.pp_steps.specs.Frames.{result_of}
use Rattle.pp_steps.specs.Guesses.{GuessSteps, Standing, agreeing, agreeing_with, all_agreeing, all_unfolded}
use Rattle.pp_steps.specs.Guesses.{answering_alike, calls_before, calls_from, equal_all, equal_answers, guess_steps}
use Rattle.pp_steps.specs.Guesses.{guessing, implying, one_unfolded, params_of, standing, unfolded_call, with_agreement}
use Rattle.pp_steps.specs.Piece.{Piece, after, joined, plain}
use Rattle.pp_steps.specs.Sorted.{AllSorted, Sorts}
use Rattle.pp_steps_run.specs.Told.{AllOf}
use Rattle.pp_steps_run.proofs.Pieces.{all_join}
use Rattle.pp_steps_sorted.proofs.Assigned.{AllAssigned, assign, assign_assigned, assigned_parts}
use Rattle.pp_steps_sorted.proofs.Pieces.{AreBool, IsOf, WellSorted, bool_join, joined_sorted, none_sorted, one_sorted}
use Rattle.pp_steps_sorted.proofs.Pieces.{plain_sorted, sorted_join}
use Rattle.pp_steps_sorted.proofs.Runs.{any_sorted, arguments_sorted, running_sorted}
use Rattle.pp_steps_sorted.proofs.Steps.{equal_makes}
use Rattle.pp_guess_steps.specs.Laws.{GuessesAreSorted}
use Rattle.pp_guess_steps.proofs.CallsPaired.{base_paired, guess_paired, unfolded_paired}
use Rattle.pp_guess_steps.proofs.Labels.{Labelled, base_labelled, guess_labelled, unfolded_labelled}
use Rattle.pp_guess_steps.proofs.OwnFrame.{A, F, R, base, n}
use Rattle.pp_guess_steps.proofs.Rounds.{Paired}
use Rattle.pp_guess_steps.proofs.RoundsRead.{guess_read}
use Rattle.pp_guess_steps.proofs.Sorting.{IsCallSorted, guessing_sorted, implying_sorted, standing_sorted}
use Rattle.pp_guess_steps.proofs.Sorting.{unfolded_sorted}
use Rattle.pp_guess_steps.proofs.StandingAgree.{mid}

module _ (p : Program) (σ : Sorts) where
  abbrev Bools : ℕ → Type 0
  Bools = IsOf p.types σ sort.Bool

  abbrev AllBools : List ℕ → Type 0
  AllBools = AreBool p.types σ

  abbrev Sorted : Standing → Type 0
  Sorted = IsCallSorted p σ

  before_sorted : (k : ℕ) (cs : List Standing) → AllOf Sorted cs → AllOf Sorted (calls_before k cs)
  before_sorted k [] h = tt
  before_sorted k (c ∷ cs) h = by (nat_lt c.has k) (before_sorted k cs h.1)
    where
      by : (b : Bool) → AllOf Sorted (calls_before k cs)
          → AllOf Sorted (if b then c ∷ calls_before k cs else calls_before k cs)
      by true r = (h.0, r)
      by false r = r

  from_sorted : (k : ℕ) (cs : List Standing) → AllOf Sorted cs → AllOf Sorted (calls_from k cs)
  from_sorted k [] h = tt
  from_sorted k (c ∷ cs) h = by (nat_lt c.has k) (from_sorted k cs h.1)
    where
      by : (b : Bool) → AllOf Sorted (calls_from k cs)
          → AllOf Sorted (if b then calls_from k cs else c ∷ calls_from k cs)
      by true r = r
      by false r = (h.0, r)

  -- ---- pairs

  equal_sorted : (k : ℕ) (xs ys : List ℕ) (test : ℕ) → map σ xs ≡ map σ ys → σ test ≡ sort.Bool
      → WellSorted p.types σ Bools k (equal_all k xs ys test)
  equal_sorted k [] [] test e t = none_sorted p.types σ {R = Bools} k test test t t
  equal_sorted k [] (y ∷ ys) test e t = one_sorted p.types σ (steps.Bool false) sort.Bool k test (λ is. (is, is)) t
  equal_sorted k (x ∷ xs) [] test e t = one_sorted p.types σ (steps.Bool false) sort.Bool k test (λ is. (is, is)) t
  equal_sorted k (x ∷ xs) (y ∷ ys) test e t =
      let first : σ x ≡ σ y = cc in
      let rest : map σ xs ≡ map σ ys = cc in
      let q : Piece ℕ = plain (steps.Binary Equal x y ∷ steps.Both test k ∷ []) (suc k) test in
      joined_sorted p.types σ k q (equal_all (after k q) xs ys (suc k))
      (plain_sorted p.types σ {R = Bools} k q.steps (suc k) test
      (λ all. let same = equal_makes p.types σ x y k first all.0 in
      ((same.0, ((t, same.1, all.1.0), tt)), all.1.0, t)))
      (λ left. equal_sorted (after k q) xs ys (suc k) rest left.out)

  -- what is supposed of one number
  one_supposed : (k a b near : ℕ) → σ a ≡ sort.Bool → σ b ≡ sort.Bool → σ near ≡ sort.Bool
      → WellSorted p.types σ AllBools k (joined (implying k a b) (plain [] ((implying k a b).out ∷ []) near))
  one_supposed k a b near x y z =
      joined_sorted p.types σ k (implying k a b) _ (implying_sorted p σ k a b x y)
      (λ i. none_sorted p.types σ {R = AllBools} _ (_ ∷ []) near (i.out, tt) z)

  alike_sorted : (b : Bool) (k : ℕ) (c d : Standing) (near : ℕ) → Sorted c → Sorted d → σ near ≡ sort.Bool
      → WellSorted p.types σ AllBools k (answering_alike b k c d near)
  alike_sorted false k c d near sc sd z = none_sorted p.types σ {R = AllBools} k [] near tt z
  alike_sorted true k c d near sc sd z =
      joined_sorted p.types σ k (plain (steps.Binary Equal c.has d.has ∷ []) k near) _
      (one_sorted p.types σ (steps.Binary Equal c.has d.has) sort.Bool k near
      (equal_makes p.types σ c.has d.has k (sc.has ∙ sym sd.has)) z)
      (λ q. one_supposed _ near k near z q.out z)

  module _ (c d : Standing) (sc : Sorted c) (sd : Sorted d) (one : c.call.callee.0 ≡ d.call.callee.0) where
    results : σ c.result ≡ σ d.result
    results = sc.result ∙ sc.labels.result ∙ ap (λ g. result_of (slice_get p.functions g)) one ∙ sym sd.labels.result
        ∙ sym sd.result

    same_params : map σ c.call.args ≡ map σ d.call.args
    same_params = sc.args ∙ sc.labels.params ∙ ap (λ g. params_of (slice_get p.functions g)) one ∙ sym sd.labels.params
        ∙ sym sd.args

    answers_sorted : (k near : ℕ) → σ near ≡ sort.Bool → WellSorted p.types σ AllBools k (equal_answers k c d near)
    answers_sorted k near z =
        let first = steps.Both near c.has ∷ steps.Both k d.has ∷ steps.Binary Equal c.result d.result ∷ [] in
        joined_sorted p.types σ k (plain first (suc k) near) _
        (plain_sorted p.types σ {R = λ m. (σ m ≡ sort.Bool) × (σ (suc (suc k)) ≡ sort.Bool)} k first (suc k) near
        (λ all. let same = equal_makes p.types σ c.result d.result (suc (suc k)) results all.1.1.0 in
        (((z, sc.has, all.0), ((all.0, sd.has, all.1.0), (same.0, tt))), (all.1.0, same.1), z)))
        (λ q. one_supposed _ (suc k) (suc (suc k)) near q.out.0 q.out.1 z)

    agreeing_sorted : (k t : ℕ) → σ t ≡ sort.Bool → WellSorted p.types σ AllBools k (agreeing k c d t)
    agreeing_sorted k t z =
        let s = equal_all k c.call.args d.call.args t in
        let j = after k s in
        let q : Piece ℕ = plain (steps.Both s.out c.call.reach ∷ steps.Both j d.call.reach ∷ []) (suc j) s.out in
        let m = after j q in
        let a = answering_alike (nat_eq c.call.wait d.call.wait) m c d (suc j) in
        let i = after m a in
        let e = equal_answers i c d (suc j) in
        let ends : Piece (List ℕ) = plain [] (a.out ++ e.out) s.out in
        joined_sorted p.types σ k s (joined q (joined a (joined e ends)))
        (equal_sorted k c.call.args d.call.args t same_params z)
        (λ same. joined_sorted p.types σ j q (joined a (joined e ends))
        (plain_sorted p.types σ {R = Bools} j q.steps (suc j) s.out
        (λ all. (((same.out, sc.reach, all.0), ((all.0, sd.reach, all.1.0), tt)), all.1.0, same.out)))
        (λ near. joined_sorted p.types σ m a (joined e ends)
        (alike_sorted (nat_eq c.call.wait d.call.wait) m c d (suc j) sc sd near.out)
        (λ alike. joined_sorted p.types σ i e ends (answers_sorted i (suc j) near.out)
        (λ equal. none_sorted p.types σ {R = AllBools} (after i e) (a.out ++ e.out) s.out
        (bool_join p.types σ a.out e.out alike.out equal.out) same.out))))

  -- two outcomes, one behind the other
  both_sorted : (k t : ℕ) (x y : Piece (List ℕ)) → WellSorted p.types σ AllBools k x
      → WellSorted p.types σ AllBools (after k x) y → σ t ≡ sort.Bool
      → WellSorted p.types σ AllBools k (joined x (joined y (plain [] (x.out ++ y.out) t)))
  both_sorted k t x y hx hy z =
      joined_sorted p.types σ k x _ hx
      (λ a. joined_sorted p.types σ _ y _ hy
      (λ b. none_sorted p.types σ {R = AllBools} _ (x.out ++ y.out) t (bool_join p.types σ x.out y.out a.out b.out) z))

  with_sorted : (k : ℕ) (c : Standing) (ds : List Standing) (t : ℕ) → Sorted c → AllOf Sorted ds → σ t ≡ sort.Bool
      → WellSorted p.types σ AllBools k (agreeing_with k c ds t)
  with_sorted k c [] t sc ss z = none_sorted p.types σ {R = AllBools} k [] t tt z
  with_sorted k c (d ∷ ds) t sc ss z =
      let x = if nat_eq c.call.callee.0 d.call.callee.0 then agreeing k c d t else plain [] [] t in
      both_sorted k t x (agreeing_with (after k x) c ds t) (by (nat_eq c.call.callee.0 d.call.callee.0) refl)
      (with_sorted (after k x) c ds t sc ss.1 z) z
    where
      by : (b : Bool) → nat_eq c.call.callee.0 d.call.callee.0 ≡ b
          → WellSorted p.types σ AllBools k (if b then agreeing k c d t else plain [] [] t)
      by true e = agreeing_sorted c d sc ss.0 (eqb-true c.call.callee.0 d.call.callee.0 e) k t z
      by false e = none_sorted p.types σ {R = AllBools} k [] t tt z

  pairs_sorted : (k : ℕ) (olds cs : List Standing) (t : ℕ) → AllOf Sorted olds → AllOf Sorted cs → σ t ≡ sort.Bool
      → WellSorted p.types σ AllBools k (all_agreeing k olds cs t)
  pairs_sorted k olds [] t so ss z = none_sorted p.types σ {R = AllBools} k [] t tt z
  pairs_sorted k olds (c ∷ cs) t so ss z =
      let x = agreeing_with k c olds t in
      both_sorted k t x (all_agreeing (after k x) (olds ++ c ∷ []) cs t) (with_sorted k c olds t ss.0 so z)
      (pairs_sorted (after k x) (olds ++ c ∷ []) cs t (all_join Sorted olds (c ∷ []) so (ss.0, tt)) ss.1 z) z

  -- ---- rounds

  -- the sorts of a round
  pub record IsRoundSorted (params : List Sort) (g : GuessSteps) : Type 0 where
    pub sorted : AllSorted p.types σ 0 g.steps
    pub arguments : map σ g.arguments ≡ params
    pub fails : σ g.fails ≡ sort.Bool
    pub true_one : σ g.true_one ≡ sort.Bool
    pub supposed : AllBools g.supposed

  -- what a piece leaves whose number of being reached doesn't matter
  abbrev Suits : ℕ → Piece (List ℕ) → Type 0
  Suits k x = AllAssigned p.types σ k x.steps → AllSorted p.types σ k x.steps × AllBools x.out

  well_suits : (k : ℕ) (x : Piece (List ℕ)) → WellSorted p.types σ AllBools k x → Suits k x
  well_suits k x h all = let it = h.given all in (it.sorted, it.leaves.out)

  -- with more steps behind it, and more numbers supposed
  pub more_sorted : (params : List Sort) (g : GuessSteps) (x : Piece (List ℕ)) → AllAssigned p.types σ 0
      (g.steps ++ x.steps)
      → IsRoundSorted params g → Suits (length g.steps) x
      → IsRoundSorted params (record {
        steps = g.steps ++ x.steps;
        arguments = g.arguments;
        fails = g.fails;
        true_one = g.true_one;
        supposed = g.supposed ++ x.out;
      })
  more_sorted params g x all h hx =
      let k = length g.steps in
      let both = assigned_parts p.types σ 0 g.steps x.steps all in
      let it = hx (subst (λ i. AllAssigned p.types σ i x.steps) (zero_plus k) both.1) in
      record {
        sorted = sorted_join p.types σ 0 g.steps x.steps h.sorted
            (subst (λ i. AllSorted p.types σ i x.steps) (sym (zero_plus k)) it.0);
        arguments = h.arguments;
        fails = h.fails;
        true_one = h.true_one;
        supposed = bool_join p.types σ g.supposed x.out h.supposed it.1;
      }

  agreement_sorted : (params : List Sort) (i : ℕ) (g : GuessSteps) → AllAssigned p.types σ 0 (with_agreement i g).steps
      → IsRoundSorted params g → Paired g.steps → Labelled p.functions g.steps → IsRoundSorted params
      (with_agreement i g)
  agreement_sorted params i g all h q l =
      let k = length g.steps in
      let cs = standing 0 g.steps in
      let s = standing_sorted p σ 0 g.steps h.sorted q l in
      let x = all_agreeing k (calls_before i cs) (calls_from i cs) g.true_one in
      more_sorted params g x all h
      (well_suits k x (pairs_sorted k (calls_before i cs) (calls_from i cs) g.true_one (before_sorted i cs s)
      (from_sorted i cs s) h.true_one))

  unfold_suits : (wait k : ℕ) (cs : List Standing) → AllOf Sorted cs → Suits k (all_unfolded p.functions wait k cs)
  unfold_suits wait k [] ss all = (tt, tt)
  unfold_suits wait k (c ∷ cs) ss all =
      let x = one_unfolded p.functions (nat_eq c.call.wait wait) k c in
      let y = all_unfolded p.functions wait (after k x) cs in
      let both = assigned_parts p.types σ k x.steps (y.steps ++ []) all in
      let rest = assigned_parts p.types σ (after k x) y.steps [] both.1 in
      let hx = by (nat_eq c.call.wait wait) both.0 in
      let hy = unfold_suits wait (after k x) cs ss.1 rest.0 in (
        sorted_join p.types σ k x.steps (y.steps ++ []) hx.0 (sorted_join p.types σ (after k x) y.steps [] hy.0 tt),
        bool_join p.types σ x.out y.out hx.1 hy.1,
      )
    where
      by : (b : Bool) → Suits k (one_unfolded p.functions b k c)
      by false all = (tt, tt)
      by true all =
          let u = unfolded_call p.functions k c in
          let both = assigned_parts p.types σ k u.steps [] all in
          let it = (unfolded_sorted p σ c ss.0 (slice_get p.functions c.call.callee.0) refl k).given both.0 in
          (sorted_join p.types σ k u.steps [] it.sorted tt, (it.leaves.out, tt))

  module _ (plan : Plan) (plans : IsPlanOf plan p) (i : ℕ) (f : Function) (is : slice_get p.functions i ≡ Some f)
      (check : CheckId) where
    pub base_sorted : AllAssigned p.types σ 0 (base p.functions f check).steps
        → IsRoundSorted (param_sorts f.params) (base p.functions f check)
    base_sorted all =
        let args = A p.functions f check in
        let m = n p.functions f check in
        let x = R p.functions f check in
        let any = F p.functions f check in
        let first = assigned_parts p.types σ 0 args.steps (x.steps ++ any.steps) all in
        let second = assigned_parts p.types σ m x.steps any.steps first.1 in
        let range = all_at (is_in_range p.types.datatypes) p.functions i f (is_valid p).in_range is in
        let params = (and_parts (list_all (is_sort p.types.datatypes) (param_sorts f.params)) _ range).0 in
        let a = (arguments_sorted p.types σ (param_sorts f.params) params).given first.0 in
        let b = (running_sorted p σ (guessing p.functions) (guessing_sorted p σ plan plans) i f is (Some check) m
        args.out args.alive a.leaves.out a.leaves.alive).given second.0 in
        let c = (any_sorted p.types σ x.fails (after m x) args.alive b.fails a.leaves.alive).given second.1 in
        record {
          sorted = sorted_join p.types σ 0 args.steps (x.steps ++ any.steps) a.sorted
              (sorted_join p.types σ m x.steps any.steps b.sorted c.sorted);
          arguments = a.leaves.out;
          fails = c.leaves.out;
          true_one = a.leaves.alive;
          supposed = tt;
        }

    round_sorted : (r : ℕ) → AllAssigned p.types σ 0 (guess_steps p.functions f check r).steps
        → IsRoundSorted (param_sorts f.params) (guess_steps p.functions f check r)
    round_sorted zero all =
        let b = base p.functions f check in
        agreement_sorted (param_sorts f.params) 0 b all (base_sorted (assigned_parts p.types σ 0 b.steps _ all).0)
        (base_paired p.functions f check) (base_labelled p.functions f check)
    round_sorted (suc r) all =
        let g = guess_steps p.functions f check r in
        let k = length g.steps in
        let cs = standing 0 g.steps in
        let m = mid p.functions r g in
        let first = (assigned_parts p.types σ 0 m.steps _ all).0 in
        let h = round_sorted r (assigned_parts p.types σ 0 g.steps _ first).0 in
        agreement_sorted (param_sorts f.params) k m all
        (more_sorted (param_sorts f.params) g (all_unfolded p.functions r k cs) first h
        (unfold_suits r k cs (standing_sorted p σ 0 g.steps h.sorted (guess_paired p.functions f check r)
        (guess_labelled p.functions f check r))))
        (unfolded_paired p.functions f check r) (unfolded_labelled p.functions f check r)

pub guesses_are_sorted : GuessesAreSorted
guesses_are_sorted plan p plans i f is check r =
    let g = guess_steps p.functions f check r in
    let σ = assign p.types 0 g.steps (λ k. sort.Bool) in
    let all = assign_assigned p.types 0 g.steps (λ k. sort.Bool) (guess_read p.functions f check r).reads in
    let h = round_sorted p σ plan plans i f is check r all in
    record {
      sorts = σ;
      sorted = h.sorted;
      arguments = h.arguments;
      fails = h.fails;
      supposed = all_bool p σ g.supposed
          h.supposed;
    }
  where
    all_bool : (p : Program) (σ : Sorts) (ks : List ℕ) → AreBool p.types σ ks → AllOf (λ k. σ k ≡ sort.Bool) ks
    all_bool p σ [] h = tt
    all_bool p σ (k ∷ ks) h = (h.0, all_bool p σ ks h.1)
