-- The contracts at the head of a body, as the automaton keeps them and as the grammar lists them.
use Rattle.pp_grammar.specs.Bodies.{Contract, IsContract, IsContracts, IsMeasure, are_in_order, are_requirements}
use Rattle.pp_grammar.specs.Bodies.{components, decreases, ends_with_measure, last_component, no_contract}
use Rattle.pp_grammar.specs.Bodies.{one_more_component, one_more_contract, require, requirements}
use Rattle.pp_grammar.specs.Frames.{Contracts, Frame, Head}
use Rattle.pp_grammar.specs.Joining.{first_or, has_measure, late_behind, onto, with_measure, with_requirement}
use Rattle.pp_grammar.specs.Joining.{with_word}
use Rattle.pp_grammar.specs.Types.{IsGap, IsSemis}
use Rattle.pp_grammar.specs.Words.{is_semi}
use Rattle.pp_grammar_sound.proofs.Fronts.{gap_goes_on, semis_go_on}
use Rattle.pp_grammar_sound.proofs.Opens.{ContractsAt, FrontContracts, HeadBlock, HeadBlockEnd, Shaped, StatAt}
use Rattle.pp_grammar_sound.proofs.Opens.{contracts_none, contracts_some, first_contract, head_block_at, head_block_end}
use Rattle.pp_grammar_sound.proofs.Opens.{measure_first, measure_last, more_requirements, next_contract}
use Rattle.pp_grammar_sound.proofs.Opens.{one_requirement, requirements_behind, stat_arm, stat_assert, stat_braces}
use Rattle.pp_grammar_sound.proofs.Opens.{stat_head, stat_val}
use Rattle.pp_tokens.specs.declared.token.Token.{Token}
use Rattle.pp_tree.specs.Plain.{Tree, TypeTree, Word}
use Rattle.std.proofs.Common.{List, None, Option, [], false, refl, true, ℕ, ◌++◌, ◌∙◌, ◌∷◌, ◌≡◌}
use Rattle.std.proofs.lemmas.List.{append-nil}
use Rattle.std.proofs.lemmas.List.{append-nil}

-- ---- what the shapes say

requirements_of : {cs : List Contract} {r m : List Tree} {l : Option ℕ} → Shaped cs r m l → (ds : List Contract)
    → requirements (onto cs ds) ≡ onto r (requirements ds)
requirements_of (one_requirement {e = e}) ds = refl
requirements_of (more_requirements {e = e} sh) ds = requirements_of sh (require e ∷ ds)
requirements_of measure_first ds = refl
requirements_of (requirements_behind {x = x} sh) ds = requirements_of sh (require x ∷ ds)
requirements_of (measure_last {e = e} {es = es} sh) ds = requirements_of sh (decreases (e ∷ es) ∷ ds)

components_of : {cs : List Contract} {r m : List Tree} {l : Option ℕ} → Shaped cs r m l → (ds : List Contract)
    → components (onto cs ds) ≡ m ++ components ds
components_of (one_requirement {e = e}) ds = refl
components_of (more_requirements {e = e} sh) ds = components_of sh (require e ∷ ds)
components_of measure_first ds = refl
components_of (requirements_behind {x = x} sh) ds = components_of sh (require x ∷ ds)
components_of (measure_last {e = e} {es = es} sh) ds = components_of sh (decreases (e ∷ es) ∷ ds)

-- behind requirements alone, the order is that of what follows
order_of_requirements : {cs : List Contract} {x : Tree} {r : List Tree} {l : Option ℕ} → Shaped cs (x ∷ r) [] l
    → (ds : List Contract) → are_in_order (onto cs ds) ≡ ends_with_measure ds
order_of_requirements one_requirement ds = refl
order_of_requirements (more_requirements {e = e} sh) ds = order_of_requirements sh (require e ∷ ds)

order_of_measure : {cs : List Contract} {e : Tree} {es r : List Tree} → Shaped cs r (e ∷ es) None
    → (ds : List Contract) → are_in_order (onto cs ds) ≡ are_requirements ds
order_of_measure measure_first ds = refl
order_of_measure (requirements_behind {x = x} sh) ds = order_of_measure sh (require x ∷ ds)

pub in_order : {cs : List Contract} {r m : List Tree} {l : Option ℕ} → Shaped cs r m l
    → are_in_order (onto cs []) ≡ true
in_order one_requirement = refl
in_order (more_requirements sh) = order_of_requirements (more_requirements sh) []
in_order measure_first = refl
in_order (requirements_behind sh) = order_of_measure (requirements_behind sh) []
in_order (measure_last {e = e} {es = es} sh) = order_of_requirements sh (decreases (e ∷ es) ∷ [])

pub requirements_are : {cs : List Contract} {r m : List Tree} {l : Option ℕ} → Shaped cs r m l
    → requirements (onto cs []) ≡ onto r []
requirements_are sh = requirements_of sh []

pub components_are : {cs : List Contract} {r m : List Tree} {l : Option ℕ} → Shaped cs r m l
    → components (onto cs []) ≡ m
components_are {m = m} sh = components_of sh [] ∙ append-nil m

module _ (text : Word) where
  -- the contracts as a list, behind the first semis
  pub record Listed (ts us : List Token) (cs : List Contract) : Type 0 where
    pub from : List Token
    pub gap : IsGap ts from
    pub reads : IsContracts text from us cs

  contracts_behind : {ts us vs : List Token} {cs ds : List Contract} → FrontContracts text ts us cs
      → IsContracts text us vs ds → Listed ts vs (onto cs ds)
  contracts_behind (first_contract g c sm) r = record { from = _; gap = g; reads = one_more_contract c sm r }
  contracts_behind (next_contract f c sm) r = contracts_behind f (one_more_contract c sm r)

  pub contracts_listed : {ts us : List Token} {cs : List Contract} → FrontContracts text ts us cs
      → Listed ts us (onto cs [])
  contracts_listed f = contracts_behind f no_contract

  front_goes_on : {ts us : List Token} {cs : List Contract} (t : Token) → is_semi t.kind ≡ true
      → FrontContracts text ts (t ∷ us) cs → FrontContracts text ts us cs
  front_goes_on t is (first_contract g c sm) = first_contract g c (semis_go_on t is sm)
  front_goes_on t is (next_contract f c sm) = next_contract f c (semis_go_on t is sm)

  contracts_go_on : {ts us : List Token} {c : Contracts} (t : Token) → is_semi t.kind ≡ true
      → ContractsAt text ts (t ∷ us) c → ContractsAt text ts us c
  contracts_go_on t is (contracts_none g) = contracts_none (gap_goes_on t is g)
  contracts_go_on t is (contracts_some p f sh) = contracts_some p (front_goes_on t is f) sh

  -- one more semi where a statement may come
  pub stat_goes_on : {ts us : List Token} {s : List Frame} (t : Token) → is_semi t.kind ≡ true
      → StatAt text ts s (t ∷ us) → StatAt text ts s us
  stat_goes_on t is (stat_braces o op is_o g) = stat_braces o op is_o (gap_goes_on t is g)
  stat_goes_on t is (stat_arm a op p g is_a gap) = stat_arm a op p g is_a (gap_goes_on t is gap)
  stat_goes_on t is (stat_val v n q st e1 e2 a e3 x sm) = stat_val v n q st e1 e2 a e3 x (semis_go_on t is sm)
  stat_goes_on t is (stat_assert a o c st e1 e2 e3 x e4 sm) =
      stat_assert a o c st e1 e2 e3 x e4 (semis_go_on t is sm)
  stat_goes_on t is (stat_head (head_block_at o sig is_o c)) =
      stat_head (head_block_at o sig is_o (contracts_go_on t is c))

  -- ---- one more contract

  required : {ts us vs ws : List Token} {c : Contracts} {e : Tree} (w : Word) (at : ℕ) → ContractsAt text ts us c
      → c.late ≡ None → IsContract text us vs (require e) → IsSemis vs ws
      → ContractsAt text ts ws (with_requirement (with_word c w at) e)
  required w at (contracts_none g) late k sm = contracts_some _ (first_contract g k sm) one_requirement
  required w at (contracts_some p f one_requirement) late k sm =
      contracts_some p (next_contract f k sm) (more_requirements one_requirement)
  required w at (contracts_some p f (more_requirements sh)) late k sm =
      contracts_some p (next_contract f k sm) (more_requirements (more_requirements sh))
  required w at (contracts_some p f measure_first) late k sm =
      contracts_some p (next_contract f k sm) (requirements_behind measure_first)
  required w at (contracts_some p f (requirements_behind sh)) late k sm =
      contracts_some p (next_contract f k sm) (requirements_behind (requirements_behind sh))
  required w at (contracts_some p f (measure_last sh)) late k sm = absurd (cc)

  pub required_end : {ts us vs : List Token} {h : Head} {a : TypeTree} {c : Contracts} {e : Tree} (w : Word) (at : ℕ)
      → HeadBlock text ts us h a c → c.late ≡ None → IsContract text us vs (require e)
      → HeadBlockEnd text ts vs h a (with_requirement (with_word c w at) e)
  required_end w at (head_block_at o sig is_o c) late k =
      head_block_end o sig is_o (λ ws sm. required w at c late k sm)

  measured : {ts us vs ws : List Token} {c : Contracts} (w : Word) (at : ℕ) (p : ℕ) (m : List Tree)
      → has_measure m ≡ true → ContractsAt text ts us c → has_measure c.measure ≡ false
      → IsContract text us vs (decreases m) → IsSemis vs ws
      → ContractsAt text ts ws (record {
        requirements = c.requirements;
        measure = m;
        first = first_or c.first
            (record { word = w; at = at });
        late = late_behind c.requirements p;
      })
  measured w at p [] some c none k sm = absurd (cc)
  measured w at p (e ∷ es) some (contracts_none g) none k sm = contracts_some _ (first_contract g k sm) measure_first
  measured w at p (e ∷ es) some (contracts_some q f one_requirement) none k sm =
      contracts_some q (next_contract f k sm) (measure_last one_requirement)
  measured w at p (e ∷ es) some (contracts_some q f (more_requirements sh)) none k sm =
      contracts_some q (next_contract f k sm) (measure_last (more_requirements sh))
  measured w at p (e ∷ es) some (contracts_some q f measure_first) none k sm = absurd (cc)
  measured w at p (e ∷ es) some (contracts_some q f (requirements_behind sh)) none k sm = absurd (cc)
  measured w at p (e ∷ es) some (contracts_some q f (measure_last sh)) none k sm = absurd (cc)

  pub measured_end : {ts us vs : List Token} {h : Head} {a : TypeTree} {c : Contracts} (w : Word) (at : ℕ) (p : ℕ)
      (ds : List Tree) → has_measure (onto ds []) ≡ true → HeadBlock text ts us h a c → has_measure c.measure ≡ false
      → IsContract text us vs (decreases (onto ds []))
      → HeadBlockEnd text ts vs h a (with_measure (with_word c w at) p ds)
  measured_end w at p ds some (head_block_at o sig is_o c) none k =
      head_block_end o sig is_o (λ ws sm. measured w at p (onto ds []) some c none k sm)

  pub is_measure : {ts us : List Token} {m : List Tree} → IsMeasure text ts us m → has_measure m ≡ true
  is_measure (last_component c e is) = refl
  is_measure (one_more_component c e is m) = refl
