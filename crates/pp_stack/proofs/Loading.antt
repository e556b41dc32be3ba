-- Arguments are held one after another.
use Rattle.std.proofs.Common.{◌≡◌, ◌∙◌, ℕ, ◌+◌, ◌<◌, List, [], ◌∷◌, ◌++◌, sym, ap, subst, length, take}
use Rattle.std.specs.Prelude.{get_or}
use Rattle.std.proofs.lemmas.List.{map_push, take_more}
use Rattle.std.proofs.lemmas.List.Elements.{All-push}
use Rattle.pp_prog.specs.declared.value.Value.{Value}
use Rattle.pp_store.specs.declared.held.Held.{Held}
use Rattle.pp_store.specs.Values.{AreHeld, Extends, IsBefore, StandsFor, value_of, values_of}
use Rattle.pp_store.proofs.Values.{extends_all_held, extends_values}

pub loaded_turn : (old new : List Value) (env more : List Held) (h : Held) (args : List Value) (i : ℕ) (arg : Value)
    → i < length args → arg ≡ get_or args i arg → AreHeld old env → values_of old env ≡ take i args → Extends old new
    → StandsFor new h arg → more ≡ env ++ h ∷ []
    → AreHeld new more × (values_of new more ≡ take (i + 1) args)
loaded_turn old new env more h args i arg lt is held same grows stands pushed =
    let kept : AreHeld new env = extends_all_held old new grows env held in (
      subst (λ (hs : List Held). AreHeld new hs) (sym pushed) (All-push (IsBefore (length new)) env h kept stands.held),
      ap (values_of new) pushed ∙ map_push (value_of new) env h
          ∙ ap (λ (vs : List Value). vs ++ value_of new h ∷ []) (extends_values old new grows env held ∙ same)
          ∙ ap (λ (v : Value). take i args ++ v ∷ []) (stands.value ∙ is) ∙ sym (take_more args i arg lt),
    )
