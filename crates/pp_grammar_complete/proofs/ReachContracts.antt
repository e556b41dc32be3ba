-- The automaton reads the contracts at the head of a body.
use Rattle.pp_grammar.specs.Automaton.{on_mode}
use Rattle.pp_grammar.specs.Bodies.{Contract, IsContract, IsContractBlock, IsContracts, IsMeasure, are_in_order}
use Rattle.pp_grammar.specs.Bodies.{are_requirements, components, contract_block, decreases, ends_with_measure}
use Rattle.pp_grammar.specs.Bodies.{last_component, measure, measure_of_tuple, no_contract, one_more_component}
use Rattle.pp_grammar.specs.Bodies.{one_more_contract, require, requirement, requirements}
use Rattle.pp_grammar.specs.Exprs.{IsExpr, IsPrimary, IsStats, at_types, at_types_on_arguments, block, bound}
use Rattle.pp_grammar.specs.Exprs.{false_word, in_block, in_round, name_alone, number, on_arguments, true_word}
use Rattle.pp_grammar.specs.Frames.{Contracts, Frame, Head, Mode, Parsed, Placed, after_decreases, after_require}
use Rattle.pp_grammar.specs.Frames.{after_stat, after_tuple, body_of, have, have_contracted, head_braces, in_tuple}
use Rattle.pp_grammar.specs.Frames.{measure_open, measuring, requiring, round, tuple_or_round, want, want_body}
use Rattle.pp_grammar.specs.Frames.{want_stat}
use Rattle.pp_grammar.specs.Joining.{above, first_or, has_measure, late_behind, no_contracts, onto, with_requirement}
use Rattle.pp_grammar.specs.Joining.{with_word}
use Rattle.pp_grammar.specs.StepBodies.{on_decreases_word, on_measure_open, on_require_word, on_stat_name}
use Rattle.pp_grammar.specs.StepExprs.{on_head_closed, on_want}
use Rattle.pp_grammar.specs.Types.{IsGap}
use Rattle.pp_grammar.specs.Words.{Role, decreases_word, number_of, require_word, role, word}
use Rattle.pp_grammar_complete.proofs.ExprSteps.{end_rest_step, ended_step, ends_rest}
use Rattle.pp_grammar_complete.proofs.Leftmost.{BeginsSame, Same, same_expr}
use Rattle.pp_grammar_complete.proofs.ReachExprs.{reaches_expr, reaches_stats}
use Rattle.pp_grammar_complete.proofs.StatSteps.{skips_gap, stat_ended}
use Rattle.pp_grammar_complete.proofs.Steps.{Go, Run, closes, go_on, take_step}
use Rattle.pp_tokens.specs.declared.token.Bracket.TheVariants.{CloseBrace, CloseRound, Comma, OpenBrace, OpenRound}
use Rattle.pp_tokens.specs.declared.token.Token.{Token}
use Rattle.pp_tokens.specs.declared.token.TokenKind.{TokenKind}
use Rattle.pp_tokens.specs.declared.token.TokenKind.TheVariants.{Hex, Mark, Name, Number}
use Rattle.pp_tree.specs.Plain.{Tree, TypeTree, Word}
use Rattle.std.proofs.Common.{Bool, List, None, Option, Some, [], ap, arith, false, is_some, refl, sym, true, ℕ, ℤ}
use Rattle.std.proofs.Common.{◌++◌, ◌∙◌, ◌∷◌, ◌≡◌}
use Rattle.std.proofs.lemmas.List.{append-nil}
use Rattle.std.proofs.lemmas.List.{append-nil}

pub onto_onto : {A : Type 0} (xs ys zs : List A) → onto (onto xs ys) zs ≡ onto ys (xs ++ zs)
onto_onto [] ys zs = refl
onto_onto (x ∷ xs) ys zs = onto_onto xs (x ∷ ys) zs

pub onto_twice : {A : Type 0} (xs : List A) → onto (onto xs []) [] ≡ xs
onto_twice xs = onto_onto xs [] [] ∙ append-nil xs

-- the contracts with this measure
abbrev pub measure_set : Contracts → ℕ → List Tree → Contracts
measure_set c at m = record c { measure = m; late = late_behind c.requirements at }

-- each of the contracts may follow those before it
abbrev pub Allowed : Contracts → List Contract → Type 0
Allowed c [] = Unit {0}
Allowed c (require e ∷ cs) =
    (c.late ≡ None) × ((w : Word) (at : ℕ) → Allowed (with_requirement (with_word c w at) e) cs)
Allowed c (decreases m ∷ cs) =
    (has_measure c.measure ≡ false) × ((w : Word) (at : ℕ) → Allowed (measure_set (with_word c w at) at m) cs)

requirements_allowed : (cs : List Contract) (c : Contracts) → are_requirements cs ≡ true → c.late ≡ None
    → Allowed c cs
requirements_allowed [] c is late = tt
requirements_allowed (require e ∷ cs) c is late =
    (late, λ w at. requirements_allowed cs (with_requirement (with_word c w at) e) is late)
requirements_allowed (decreases m ∷ cs) c is late = absurd (cc)

measure_last_allowed : (cs : List Contract) (c : Contracts) → ends_with_measure cs ≡ true → c.late ≡ None
    → has_measure c.measure ≡ false → Allowed c cs
measure_last_allowed [] c is late none = tt
measure_last_allowed (require e ∷ cs) c is late none =
    (late, λ w at. measure_last_allowed cs (with_requirement (with_word c w at) e) is late none)
measure_last_allowed (decreases m ∷ []) c is late none = (none, λ w at. tt)
measure_last_allowed (decreases m ∷ k ∷ cs) c is late none = absurd (cc)

pub order_allowed : (cs : List Contract) → are_in_order cs ≡ true → Allowed no_contracts cs
order_allowed [] is = tt
order_allowed (require e ∷ cs) is = measure_last_allowed (require e ∷ cs) no_contracts is refl refl
order_allowed (decreases m ∷ cs) is =
    (refl, λ w at. requirements_allowed cs (measure_set (with_word no_contracts w at) at m) is refl)

abbrev pub has_contract : List Contract → Bool
has_contract [] = false
has_contract (k ∷ cs) = true

word_first : (x : Option Placed) (p : Placed) → is_some (first_or x p) ≡ true
word_first None p = refl
word_first (Some q) p = refl

module _ (text : Word) (d : Parsed) (b : Bool) where
  -- ---- measures

  same_kind : (t : Token) (us : List Token) (s : List Frame) (m n : Mode) (k : TokenKind) → t.kind ≡ k
      → on_mode text t s m k ≡ on_mode text t s n k → Run text d b (t ∷ us) s m ≡ Run text d b (t ∷ us) s n
  same_kind t us s m n k is e = take_step text d b t us s m k is ∙ go_on text d b t us _ _ e
      ∙ sym (take_step text d b t us s n k is)

  measure_number : (t : Token) (s : List Frame) (n : ℤ) (k : TokenKind) → number_of k ≡ Some n
      → on_measure_open text t s k ≡ on_want text t s k
  measure_number t s n (Number j) is = refl
  measure_number t s n (Hex j) is = refl
  measure_number t s n _ is = absurd (cc)

  measure_primary : {ts us : List Token} {e : Tree} (s : List Frame) → IsPrimary text ts us e
      → Same text d b measure_open s ts
  measure_primary {us = us} s (number {n = n} t is) = go_on text d b t us _ _ (measure_number t s n t.kind is)
  measure_primary {us = us} s (true_word t is) = same_kind t us s measure_open want _ is refl
  measure_primary {us = us} s (false_word t is) = same_kind t us s measure_open want _ is refl
  measure_primary {us = us} s (bound i dot t is r is_d is_t e) = same_kind i (dot ∷ t ∷ us) s measure_open want _
      is refl
  measure_primary {us = us} s (name_alone t is r) = same_kind t us s measure_open want _ is refl
  measure_primary s (at_types {ts = ts} t o is r is_o tys) = same_kind t (o ∷ ts) s measure_open want _ is refl
  measure_primary s (on_arguments {ts = ts} t is r es) = same_kind t ts s measure_open want _ is refl
  measure_primary s (at_types_on_arguments {ts = ts} t o is r is_o tys es) = same_kind t (o ∷ ts) s measure_open
      want _ is refl
  measure_primary {us = us} {e = e} s (in_round {ts = ts} o c is r is_c) =
      take_step text d b o ts s measure_open _ is
      ∙ (reaches_expr text d b r).reach (tuple_or_round ∷ s) (omega arith) (ap closes is_c)
      ∙ ended_step text d b c us (above (tuple_or_round ∷ s) e false) _ is_c
      ∙ sym (take_step text d b o ts s want _ is
      ∙ (reaches_expr text d b r).reach (round ∷ s) (omega arith) (ap closes is_c)
      ∙ ended_step text d b c us (above (round ∷ s) e false) _ is_c)
  measure_primary s (in_block (block {ts = ts} o c is r is_c)) = same_kind o ts s measure_open want _ is refl

  measure_same : (s : List Frame) → BeginsSame text d b measure_open s
  measure_same s = record {
    at_operator = λ t us o is. same_kind t us s measure_open want _ is refl;
    at_if = λ t us is. same_kind t us s measure_open want _ is refl;
    at_primary = measure_primary s;
  }

  reaches_measure : {ts us : List Token} {m : List Tree} → IsMeasure text ts us m
      → (s : List Frame) (c : Contracts) (at : ℕ)
      (ds : List Tree) → Run text d b ts (measuring at ds ∷ head_braces c ∷ s) want
      ≡ Run text d b us (head_braces (measure_set c at (onto ds m)) ∷ s) after_stat
  reaches_measure {us = us} (last_component {e = e} p r is) s c at ds =
      (reaches_expr text d b r).reach (measuring at ds ∷ head_braces c ∷ s) (omega arith) (ap closes is)
      ∙ ended_step text d b p us (above (measuring at ds ∷ head_braces c ∷ s) e false) _ is
  reaches_measure (one_more_component {us = us} {e = e} p r is rs) s c at ds =
      (reaches_expr text d b r).reach (measuring at ds ∷ head_braces c ∷ s) (omega arith) (ap closes is)
      ∙ ended_step text d b p us (above (measuring at ds ∷ head_braces c ∷ s) e false) _ is
      ∙ reaches_measure rs s c at (e ∷ ds)

  measure_first_same : {ts us : List Token} {m : List Tree} → IsMeasure text ts us m → (s : List Frame)
      → Same text d b measure_open s ts
  measure_first_same (last_component p r is) s = same_expr text d b measure_open s (measure_same s) r
  measure_first_same (one_more_component p r is rs) s = same_expr text d b measure_open s (measure_same s) r

  reaches_tuple : {ts us : List Token} {m : List Tree} → IsMeasure text ts us m → (s : List Frame) (ds : List Tree)
      → Run text d b ts (in_tuple ds ∷ s) want ≡ Run text d b us s (after_tuple (onto m ds))
  reaches_tuple {us = us} (last_component {e = e} p r is) s ds =
      (reaches_expr text d b r).reach (in_tuple ds ∷ s) (omega arith) (ap closes is)
      ∙ ended_step text d b p us (above (in_tuple ds ∷ s) e false) _ is
  reaches_tuple (one_more_component {us = us} {e = e} p r is rs) s ds =
      (reaches_expr text d b r).reach (in_tuple ds ∷ s) (omega arith) (ap closes is)
      ∙ ended_step text d b p us (above (in_tuple ds ∷ s) e false) _ is ∙ reaches_tuple rs s (e ∷ ds)

  -- ---- one contract

  role_step : (t : Token) (us : List Token) (s : List Frame) (r : Role) → t.kind ≡ Name → role (word text t) ≡ r
      → Run text d b (t ∷ us) s want_stat ≡ Go text d b t us (on_stat_name text t s r)
  role_step t us s r is is_r =
      take_step text d b t us s want_stat _ is ∙ ap (λ x. Go text d b t us (on_stat_name text t s x)) is_r

  -- what a contract makes of those before it
  abbrev pub with_contract : Contracts → Word → ℕ → Contract → Contracts
  with_contract c w at (require e) = with_requirement (with_word c w at) e
  with_contract c w at (decreases m) = measure_set (with_word c w at) at m

  pub record OneRead (ts us : List Token) (s : List Frame) (c : Contracts) (k : Contract) : Type 0 where
    pub called : Word
    pub at : ℕ
    pub steps : Run text d b ts (head_braces c ∷ s) want_stat ≡ Run text d b us (head_braces (with_contract c
        called at k) ∷ s) after_stat

  reads_requirement : {ts us : List Token} {e : Tree} (w o p : Token) → w.kind ≡ Name
      → role (word text w) ≡ require_word
      → o.kind ≡ Mark OpenRound → IsExpr text ts (p ∷ us) e → p.kind ≡ Mark CloseRound
      → (s : List Frame) (c : Contracts)
      → c.late ≡ None → OneRead (w ∷ o ∷ ts) us s c (require e)
  reads_requirement {ts = ts} {us = us} {e = e} w o p is r is_o x is_p s c late =
      let wd : Word = word text w in let at : ℕ = w.from in let c1 : Contracts = with_word c wd at in
      record {
        called = wd;
        at = at;
        steps = role_step w (o ∷ ts) (head_braces c ∷ s) require_word is r
            ∙ ap (λ x. Go text d b w (o ∷ ts) (on_require_word text w s c x)) late
            ∙ take_step text d b o ts (head_braces c1 ∷ s) after_require _ is_o
            ∙ (reaches_expr text d b x).reach (requiring ∷ head_braces c1 ∷ s) (omega arith) (ap closes is_p)
            ∙ ended_step text d b p us (above (requiring ∷ head_braces c1 ∷ s) e false) _ is_p;
      }

  measure_word : (w o : Token) (ts : List Token) (s : List Frame) (c : Contracts) → w.kind ≡ Name
      → role (word text w) ≡ decreases_word → o.kind ≡ Mark OpenRound → has_measure c.measure ≡ false
      → Run text d b (w ∷ o ∷ ts) (head_braces c ∷ s) want_stat
      ≡ Run text d b ts (measuring w.from [] ∷ head_braces (with_word c (word text w) w.from) ∷ s) measure_open
  measure_word w o ts s c is r is_o none =
      role_step w (o ∷ ts) (head_braces c ∷ s) decreases_word is r
      ∙ ap (λ x. Go text d b w (o ∷ ts) (on_decreases_word text w s c x)) none
      ∙ take_step text d b o ts (head_braces (with_word c (word text w) w.from) ∷ s) (after_decreases w.from) _ is_o

  reads_measure : {ts us : List Token} {m : List Tree} (w o : Token) → w.kind ≡ Name
      → role (word text w) ≡ decreases_word → o.kind ≡ Mark OpenRound → IsMeasure text ts us m → (s : List Frame)
      (c : Contracts) → has_measure c.measure ≡ false → OneRead (w ∷ o ∷ ts) us s c (decreases m)
  reads_measure {ts = ts} w o is r is_o m s c none =
      let c1 : Contracts = with_word c (word text w) w.from in
      record {
        called = word text w;
        at = w.from;
        steps = measure_word w o ts s c is r is_o none ∙ measure_first_same m (measuring w.from [] ∷ head_braces c1
            ∷ s)
            ∙ reaches_measure m s c1 w.from [];
      }

  reads_tuple : {ts us vs : List Token} {e : Tree} {m : List Tree} (w o p q z : Token) → w.kind ≡ Name
      → role (word text w) ≡ decreases_word → o.kind ≡ Mark OpenRound → p.kind ≡ Mark OpenRound
      → IsExpr text ts (q ∷ us) e → q.kind ≡ Mark Comma → IsMeasure text us (z ∷ vs) m → z.kind ≡ Mark CloseRound
      → (s : List Frame) (c : Contracts) → has_measure c.measure ≡ false
      → OneRead (w ∷ o ∷ p ∷ ts) vs s c (decreases (e ∷ m))
  reads_tuple {ts = ts} {us = us} {vs = vs} {e = e} {m = m} w o p q z is r is_o is_p x is_q y is_z s c none =
      let c1 : Contracts = with_word c (word text w) w.from in
      let f : List Frame = measuring w.from [] ∷ head_braces c1 ∷ s in
      record {
        called = word text w;
        at = w.from;
        steps = measure_word w o (p ∷ ts) s c is r is_o none ∙ take_step text d b p ts f measure_open _ is_p
            ∙ (reaches_expr text d b x).reach (tuple_or_round ∷ f) (omega arith) (ap closes is_q)
            ∙ ended_step text d b q us (above (tuple_or_round ∷ f) e false) _ is_q
            ∙ reaches_tuple y f (e ∷ [])
            ∙ take_step text d b z vs f (after_tuple (onto m (e ∷ []))) _ is_z
            ∙ ap (λ (l : List Tree). Run text d b vs (head_braces (measure_set c1 w.from l) ∷ s) after_stat)
            (onto_onto m (e ∷ []) [] ∙ ap (λ (l : List Tree). e ∷ l) (append-nil m));
      }

  -- a contract that may follow those before it
  abbrev AllowedOne : Contracts → Contract → Type 0
  AllowedOne c (require e) = c.late ≡ None
  AllowedOne c (decreases m) = has_measure c.measure ≡ false

  reads_contract : {ts us : List Token} {k : Contract} → IsContract text ts us k → (s : List Frame) (c : Contracts)
      → AllowedOne c k → OneRead ts us s c k
  reads_contract (requirement w o p is r is_o x is_p) s c ok = reads_requirement w o p is r is_o x is_p s c ok
  reads_contract (measure w o is r is_o m) s c ok = reads_measure w o is r is_o m s c ok
  reads_contract (measure_of_tuple w o p q z is r is_o is_p x is_q y is_z) s c ok =
      reads_tuple w o p q z is r is_o is_p x is_q y is_z s c ok

  -- ---- all contracts

  pub record AllRead (ts us : List Token) (s : List Frame) (c : Contracts) (cs : List Contract) : Type 0 where
    pub result : Contracts
    pub steps : Run text d b ts (head_braces c ∷ s) want_stat ≡ Run text d b us (head_braces result ∷ s) want_stat
    pub requirements_are : onto result.requirements [] ≡ onto c.requirements (requirements cs)
    pub measure_is : result.measure ≡ c.measure ++ components cs
    pub first_kept : is_some c.first ≡ true → is_some result.first ≡ true
    pub first_is : has_contract cs ≡ true → is_some result.first ≡ true

  allowed_one : (c : Contracts) (k : Contract) (cs : List Contract) → Allowed c (k ∷ cs) → AllowedOne c k
  allowed_one c (require e) cs a = a.0
  allowed_one c (decreases m) cs a = a.0

  allowed_rest : (c : Contracts) (k : Contract) (cs : List Contract) → Allowed c (k ∷ cs) → (w : Word) (at : ℕ)
      → Allowed (with_contract c w at k) cs
  allowed_rest c (require e) cs a w at = a.1 w at
  allowed_rest c (decreases m) cs a w at = a.1 w at

  with_requirements : (c : Contracts) (k : Contract) (cs : List Contract) (w : Word) (at : ℕ)
      → onto (with_contract c w at k).requirements (requirements cs) ≡ onto c.requirements (requirements (k ∷ cs))
  with_requirements c (require e) cs w at = refl
  with_requirements c (decreases m) cs w at = refl

  measure_before : (xs : List Tree) → has_measure xs ≡ false → (ys : List Tree) → ys ≡ xs ++ ys
  measure_before [] none ys = refl
  measure_before (x ∷ xs) none ys = absurd (cc)

  with_components : (c : Contracts) (k : Contract) (cs : List Contract) (w : Word) (at : ℕ) → AllowedOne c k
      → (with_contract c w at k).measure ++ components cs ≡ c.measure ++ components (k ∷ cs)
  with_components c (require e) cs w at ok = refl
  with_components c (decreases m) cs w at ok = measure_before c.measure ok (m ++ components cs)

  with_first : (c : Contracts) (k : Contract) (w : Word) (at : ℕ) → is_some (with_contract c w at k).first ≡ true
  with_first c (require e) w at = word_first c.first _
  with_first c (decreases m) w at = word_first c.first _

  pub reaches_contracts : {ts us : List Token} {cs : List Contract} → IsContracts text ts us cs → (s : List Frame)
      (c : Contracts) → Allowed c cs → AllRead ts us s c cs
  reaches_contracts no_contract s c a = record {
    result = c;
    steps = refl;
    requirements_are = refl;
    measure_is = sym (append-nil c.measure);
    first_kept = λ is. is;
    first_is = λ is. absurd (cc);
  }
  reaches_contracts {us = us} (one_more_contract {c = k} {cs = cs} r sm rs) s c a =
      let h = reads_contract r s c (allowed_one c k cs a) in
      let n : Contracts = with_contract c h.called h.at k in
      let g = reaches_contracts rs s n (allowed_rest c k cs a h.called h.at) in
      record {
        result = g.result;
        steps = h.steps ∙ stat_ended text d b sm (head_braces n ∷ s) ∙ g.steps;
        requirements_are = g.requirements_are ∙ with_requirements c k cs h.called h.at;
        measure_is = g.measure_is ∙ with_components c k cs h.called h.at (allowed_one c k cs a);
        first_kept = λ is. g.first_kept (with_first c k h.called h.at);
        first_is = λ is. g.first_kept (with_first c k h.called h.at);
      }

  -- ---- the block at the head of a body

  -- a block without contracts is an expression
  pub data BlockRead (ts us : List Token) (h : Head) (a : TypeTree) : List Tree → List Tree → Tree → Type 0 where
    block_plain : {e : Tree}
        → Run text d b ts (body_of h a no_contracts ∷ []) want_body ≡ Run text d b us (body_of h a no_contracts ∷
        []) (have e false)
        → BlockRead ts us h a [] [] e
    block_contracts : {e : Tree} {pre m : List Tree} (c : Contracts) → onto c.requirements [] ≡ pre → c.measure ≡ m
        → Run text d b ts (body_of h a no_contracts ∷ []) want_body ≡ Run text d b us (body_of h a c ∷ [])
        (have_contracted e)
        → BlockRead ts us h a pre m e

  closes_contracts : (t : Token) (us : List Token) (h : Head) (a : TypeTree) (c : Contracts) (x : Option Placed) (e
      : Tree)
      → is_some x ≡ true → Go text d b t us (on_head_closed text t (body_of h a no_contracts ∷ []) c x e)
      ≡ Run text d b us (body_of h a c ∷ []) (have_contracted e)
  closes_contracts t us h a c (Some p) e is = refl
  closes_contracts t us h a c None e is = absurd (cc)

  block_head : {ts us vs ws : List Token} {e : Tree} (o p : Token) → o.kind ≡ Mark OpenBrace → IsGap ts us
      → IsStats text us vs e
      → IsGap vs (p ∷ ws) → p.kind ≡ Mark CloseBrace → (h : Head) (a : TypeTree)
      → Run text d b (o ∷ ts) (body_of h a no_contracts ∷ []) want_body
      ≡ Run text d b ws (body_of h a no_contracts ∷ []) (have e false)
  block_head {ts = ts} {ws = ws} {e = e} o p is g r gap is_p h a =
      let B : List Frame = body_of h a no_contracts ∷ [] in
      take_step text d b o ts B want_body _ is ∙ skips_gap text d b g (head_braces no_contracts ∷ B)
      ∙ (reaches_stats text d b r).reach (p ∷ ws) gap (head_braces no_contracts ∷ B) refl (ap ends_rest is_p)
      ∙ end_rest_step text d b p ws (head_braces no_contracts ∷ B) e _ is_p

  reads_block : {ts us vs ws xs : List Token} {cs : List Contract} {e : Tree} (o p : Token) → o.kind ≡ Mark OpenBrace
      → IsGap ts us → IsContracts text us vs cs → are_in_order cs ≡ true → IsStats text vs ws e → IsGap ws (p ∷ xs)
      → p.kind ≡ Mark CloseBrace → (h : Head) (a : TypeTree)
      → BlockRead (o ∷ ts) xs h a (requirements cs) (components cs) e
  reads_block o p is g no_contract ord r gap is_p h a = block_plain (block_head o p is g r gap is_p h a)
  reads_block {ts = ts} {xs = xs} {e = e} o p is g (one_more_contract {c = k} {cs = cs} x sm rs) ord r gap is_p h a =
      let B : List Frame = body_of h a no_contracts ∷ [] in
      let all = one_more_contract x sm rs in
      let allowed = order_allowed (k ∷ cs) ord in
      let f = reaches_contracts all B no_contracts allowed in
      block_contracts f.result f.requirements_are f.measure_is
      (take_step text d b o ts B want_body _ is ∙ skips_gap text d b g (head_braces no_contracts ∷ B) ∙ f.steps
      ∙ (reaches_stats text d b r).reach (p ∷ xs) gap (head_braces f.result ∷ B) refl (ap ends_rest is_p)
      ∙ end_rest_step text d b p xs (head_braces f.result ∷ B) e _ is_p
      ∙ closes_contracts p xs h a f.result f.result.first e (f.first_is refl))

  pub reaches_block : {ts us : List Token} {pre m : List Tree} {e : Tree} → IsContractBlock text ts us pre m e
      → (h : Head)
      (a : TypeTree) → BlockRead ts us h a pre m e
  reaches_block (contract_block o p is g cs ord r gap is_p) h a = reads_block o p is g cs ord r gap is_p h a
