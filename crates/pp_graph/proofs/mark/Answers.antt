use Rattle.std.proofs.Common.{◌≡◌, ◌++◌, ◌∷◌, [], List, ℕ, Bool, true, length, sym, ap, ◌∙◌, subst, slice_set}
use Rattle.pp_graph.specs.declared.Front.{Front}
use Rattle.pp_graph.specs.Fronts.{IsFront, Marked, unmarked_at}
use Rattle.pp_graph.proofs.Marks.{grows, stays, unmarked_within}
use Rattle.pp_graph.proofs.mark.Goals as goal

pub returns-then-not-is_unmarked : goal.returns-then-not-is_unmarked
returns-then-not-is_unmarked c =
    stays c.args.front c.args.g c.requires
    (ap (λ l. unmarked_at l c.args.g) (sym c.as_slice.ensures) ∙ sym c.is_unmarked.ensures
    ∙ c.if-not-is_unmarked.true)

pub set-requires : goal.set-requires
set-requires c =
    (unmarked_within c.args.front.marks c.args.g
    (ap (λ l. unmarked_at l c.args.g) (sym c.as_slice.ensures) ∙ sym c.is_unmarked.ensures
    ∙ c.if-not-is_unmarked.false)).0

grown : (s : Front) (g : ℕ) (marks : List Bool) (found : List ℕ) → IsFront (length s.marks) s
    → unmarked_at s.marks g ≡ true → marks ≡ slice_set s.marks g true → found ≡ s.found ++ g ∷ []
    → Marked s (g ∷ []) (record { marks = marks; found = found })
grown s g marks found f h m e =
    let mk : List Bool → List ℕ → Front = λ ms l. record { marks = ms; found = l } in
    rw m (subst (λ l. Marked s (g ∷ []) (mk (slice_set s.marks g true) l)) (sym e) (grows s g f h))

pub returns : goal.returns
returns c =
    grown c.args.front c.args.g c.set.new.self c.push.new.self c.requires
    (ap (λ l. unmarked_at l c.args.g) (sym c.as_slice.ensures) ∙ sym c.is_unmarked.ensures ∙ c.if-not-is_unmarked.false)
    c.set.ensures c.in_ok-push.ensures.ok
