-- Bytes spell at most one unit, and none where they are refused.
use Rattle.std.proofs.Common.{◌≡◌, ◌∙◌, ℕ, List, None, Some, subst, sym}
use Rattle.pp_grammar.specs.Units.{SpellsUnit}
use Rattle.pp_grammar_laws.proofs.Unique.{unique}
use Rattle.pp_source.specs.Laws.{RefusedSpellNone, UnitsAreUnique}
use Rattle.pp_source.specs.Refuses.{Refuses, bad_character, bad_number, left_out, misspelt, not_utf8, open_comment}
use Rattle.pp_source.specs.Refuses.{too_deep}
use Rattle.pp_source.specs.Units.{IsUnitOf}
use Rattle.pp_tokens.specs.Tokens.{refused, spelled, tokens_of}
use Rattle.pp_tokens.specs.declared.token.LexFault.{LexFault}
use Rattle.pp_tokens.specs.declared.token.Token.{Token}
use Rattle.pp_tree.specs.Plain.{UnitTree}
use Rattle.pp_tree.specs.Roots.{too_high, unit_roots}

same_tokens : (bytes : List ℕ) (ts us : List Token) → tokens_of bytes ≡ spelled ts → tokens_of bytes ≡ spelled us
    → ts ≡ us
same_tokens bytes ts us h k = by (sym h ∙ k)
  where
    by : spelled ts ≡ spelled us → ts ≡ us
    by e = cc

not_both : (bytes : List ℕ) (ts : List Token) (f : LexFault) → tokens_of bytes ≡ spelled ts
    → tokens_of bytes ≡ refused f → ⊥
not_both bytes ts f h k = by (sym h ∙ k)
  where
    by : spelled ts ≡ refused f → ⊥
    by e = cc

-- the unit, spelled by tokens of the bytes
spells_at : (bytes : List ℕ) (u : UnitTree) (ts : List Token) → IsUnitOf bytes u → tokens_of bytes ≡ spelled ts
    → SpellsUnit bytes ts u
spells_at bytes u ts h cut = subst (λ (l : List Token). SpellsUnit bytes l u)
    (same_tokens bytes h.tokens ts h.cut cut) h.spells

pub units_are_unique : UnitsAreUnique
units_are_unique bytes u v h k = unique bytes k.tokens u v (spells_at bytes u k.tokens h k.cut) k.spells

no_high : (u : UnitTree) (at : ℕ) → too_high (unit_roots u) ≡ Some at → too_high (unit_roots u) ≡ None → ⊥
no_high u at h k = by (sym h ∙ k)
  where
    by : Some at ≡ None → ⊥
    by e = cc

module _ (number : ℕ) (bytes : List ℕ) (u : UnitTree) where
  excluded : {line : List ℕ} → Refuses number bytes line → IsUnitOf bytes u → ⊥
  excluded (not_utf8 at bad first) h = bad h.utf8
  excluded (bad_character at utf8 e) h = not_both bytes h.tokens _ h.cut e
  excluded (bad_number at utf8 e) h = not_both bytes h.tokens _ h.cut e
  excluded (open_comment at utf8 e) h = not_both bytes h.tokens _ h.cut e
  excluded (misspelt at ts utf8 cut miss begins) h = miss.unspelled u (spells_at bytes u ts h cut)
  excluded (too_deep at ts utf8 cut high) h =
      let same = unique bytes ts high.unit u high.spelled (spells_at bytes u ts h cut) in
      no_high u at (subst (λ (v : UnitTree). too_high (unit_roots v) ≡ Some at) same high.high) h.low
  excluded (left_out at name ts utf8 cut out begins) h = out.unspelled u (spells_at bytes u ts h cut)

pub refused_spell_none : RefusedSpellNone
refused_spell_none number bytes line u refuses h = excluded number bytes u refuses h
