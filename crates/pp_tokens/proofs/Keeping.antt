-- What holds of tokens holds of those that are kept.
use Rattle.std.proofs.Common.{ℕ, ◌≡◌, ◌≢◌, List, [], ◌∷◌, ◌++◌, append_assoc, refl, sym, ap, ◌∙◌, arith, Bool, true}
use Rattle.std.proofs.Common.{false, cond, Option, Some, None}
use Rattle.std.specs.Prelude.{◌&&◌}
use Rattle.pp_tokens.specs.declared.token.Token.{Token}
use Rattle.pp_tokens.proofs.Every.{Every, all_of}
use Rattle.pp_tokens.specs.declared.token.TokenKind.TheVariants.{End}
use Rattle.pp_tokens.specs.declared.newlines.Region.{Region}
use Rattle.pp_tokens.specs.Cutting.{token}
use Rattle.pp_tokens.specs.Newlines.{newlines, is_newline, first_feed, kept, can_begin, can_end, next_kind, enabled}
use Rattle.pp_tokens.specs.Newlines.{inside}
use Rattle.pp_tokens.specs.Spans.{AreInOrder, HasEnd}
use Rattle.pp_tokens.proofs.Standing.{earlier}

abbrev IsOf : (P : Token → Type 0) → Option Token → Type 0
IsOf P None = Unit {0}
IsOf P (Some t) = P t

module _ (P : Token → Type 0) where
  first_keeps : (waiting : Option Token) (t : Token) → IsOf P waiting → P t → IsOf P (first_feed waiting t)
  first_keeps None t h p = p
  first_keeps (Some u) t h p = h

  kept_keeps : (b : Bool) (waiting : Option Token) (t : Token) (ts : List Token) → IsOf P waiting → P t → Every P ts
      → Every P (kept b waiting t ++ ts)
  kept_keeps true None t ts h p all = (p, all)
  kept_keeps true (Some u) t ts h p all = (h, (p, all))
  kept_keeps false waiting t ts h p all = (p, all)

  by_kind : (b : Bool) (xs ys : List Token) → Every P xs → Every P ys → Every P (cond b xs ys)
  by_kind true xs ys f g = f
  by_kind false xs ys f g = g

  pub all_kept : (ts : List Token) (rs : List Region) (ended : Bool) (waiting : Option Token) → Every P ts
      → IsOf P waiting → Every P (newlines rs ended waiting ts)
  all_kept [] rs ended waiting all h = tt
  all_kept (t ∷ ts) rs ended waiting all h =
      let next = next_kind ts in
      by_kind (is_newline t.kind) (newlines rs ended (first_feed waiting t) ts)
      (kept (ended && can_begin t.kind next && enabled rs) waiting t
      ++ newlines (inside t.kind next rs) (can_end t.kind) None ts)
      (all_kept ts rs ended (first_feed waiting t) all.1 (first_keeps waiting t h all.0))
      (kept_keeps (ended && can_begin t.kind next && enabled rs) waiting t
      (newlines (inside t.kind next rs) (can_end t.kind) None ts) h all.0
      (all_kept ts (inside t.kind next rs) (can_end t.kind) None all.1 tt))

-- the line feed that waits stands before the tokens
abbrev Waits : ℕ → Option Token → List Token → Type 0
Waits at None ts = AreInOrder at ts
Waits at (Some u) ts = AreInOrder at (u ∷ ts)

order_first : (at : ℕ) (waiting : Option Token) (t : Token) (ts : List Token) → Waits at waiting (t ∷ ts)
    → Waits at (first_feed waiting t) ts
order_first at None t ts h = h
order_first at (Some u) t ts h = (h.0, h.1, earlier u.to t.to ts (omega (arith, h.2.0, h.2.1)) h.2.2)

-- a token with what waits before it, and tokens behind it
order_kept : (b : Bool) (at : ℕ) (waiting : Option Token) (t : Token) (old ts : List Token) → Waits at waiting (t ∷ old)
    → (AreInOrder t.to old → AreInOrder t.to ts) → AreInOrder at (kept b waiting t ++ ts)
order_kept true at None t old ts h more = (h.0, h.1, more h.2)
order_kept true at (Some u) t old ts h more = (h.0, h.1, (h.2.0, h.2.1, more h.2.2))
order_kept false at None t old ts h more = (h.0, h.1, more h.2)
order_kept false at (Some u) t old ts h more = (omega (arith, h.0, h.1, h.2.0), h.2.1, more h.2.2)

either_order : (at : ℕ) (b : Bool) (xs ys : List Token) → AreInOrder at xs → AreInOrder at ys
    → AreInOrder at (cond b xs ys)
either_order at true xs ys f g = f
either_order at false xs ys f g = g

pub order_of_kept : (ts : List Token) (at : ℕ) (rs : List Region) (ended : Bool) (waiting : Option Token)
    → Waits at waiting ts → AreInOrder at (newlines rs ended waiting ts)
order_of_kept [] at rs ended waiting h = tt
order_of_kept (t ∷ ts) at rs ended waiting h =
    let next = next_kind ts in
    either_order at (is_newline t.kind) (newlines rs ended (first_feed waiting t) ts)
    (kept (ended && can_begin t.kind next && enabled rs) waiting t
    ++ newlines (inside t.kind next rs) (can_end t.kind) None ts)
    (order_of_kept ts at rs ended (first_feed waiting t) (order_first at waiting t ts h))
    (order_kept (ended && can_begin t.kind next && enabled rs) at waiting t ts
    (newlines (inside t.kind next rs) (can_end t.kind) None ts) h
    (order_of_kept ts t.to (inside t.kind next rs) (can_end t.kind) None))

-- the end is kept, alone
abbrev NoEnd : Token → Type 0
NoEnd t = t.kind ≢ End

end_kept : (a c : Bool) (waiting : Option Token) (e : Token) → kept (a && false && c) waiting e ++ [] ≡ e ∷ []
end_kept true c waiting e = refl
end_kept false c waiting e = refl

-- the end stands last, and no token before it is one
record Ends (n : ℕ) (ts : List Token) : Type 0 where
  pub front : List Token
  pub whole : ts ≡ front ++ token End n n ∷ []
  pub once : Every NoEnd front

module _ (n : ℕ) where
  has_kept : (b : Bool) (waiting : Option Token) (t : Token) (ts : List Token) → IsOf NoEnd waiting → NoEnd t
      → Ends n ts → Ends n (kept b waiting t ++ ts)
  has_kept b waiting t ts h p e = record {
    front = kept b waiting t ++ e.front;
    whole = ap (λ (l : List Token). kept b waiting t ++ l) e.whole
        ∙ sym (append_assoc (kept b waiting t) e.front (token End n n ∷ []));
    once = kept_keeps NoEnd b waiting t e.front h p e.once;
  }

  either_end : (b : Bool) (xs ys : List Token) → Ends n xs → Ends n ys → Ends n (cond b xs ys)
  either_end true xs ys f g = f
  either_end false xs ys f g = g

  kept_end : (ts : List Token) (rs : List Region) (ended : Bool) (waiting : Option Token) → Every NoEnd ts
      → IsOf NoEnd waiting → Ends n (newlines rs ended waiting (ts ++ token End n n ∷ []))
  kept_end [] rs ended waiting all h =
      record { front = []; whole = end_kept ended (enabled rs) waiting (token End n n); once = tt }
  kept_end (t ∷ ts) rs ended waiting all h =
      let more = ts ++ token End n n ∷ [] in
      let next = next_kind more in
      either_end (is_newline t.kind) (newlines rs ended (first_feed waiting t) more)
      (kept (ended && can_begin t.kind next && enabled rs) waiting t
      ++ newlines (inside t.kind next rs) (can_end t.kind) None more)
      (kept_end ts rs ended (first_feed waiting t) all.1 (first_keeps NoEnd waiting t h all.0))
      (has_kept (ended && can_begin t.kind next && enabled rs) waiting t
      (newlines (inside t.kind next rs) (can_end t.kind) None more) h all.0
      (kept_end ts (inside t.kind next rs) (can_end t.kind) None all.1 tt))

  pub end_of_kept : (ts : List Token) (rs : List Region) (ended : Bool) (waiting : Option Token) → Every NoEnd ts
      → IsOf NoEnd waiting → HasEnd n (newlines rs ended waiting (ts ++ token End n n ∷ []))
  end_of_kept ts rs ended waiting all h =
      let e = kept_end ts rs ended waiting all h in
      record { front = e.front; whole = e.whole; once = all_of NoEnd e.front e.once }
