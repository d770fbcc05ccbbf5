-- A derivation cut behind the last token goes on in one shortest way: for `fault_before` and for the cut itself.
use Rattle.std.proofs.Common.{◌≡◌, ℕ, zero, suc, ◌+◌, ◌<◌, List, [], ◌∷◌, ◌++◌, length, drop, take, reverse, slice_index_or, refl, ap, sym, subst, ◌∙◌, append_assoc, length-append, add-one, arith}
use Rattle.sil_grammar_classes.specs.declared.classes.Class.{Class}
use Rattle.sil_grammar_tables.specs.declared.grammar.Symbol.{Symbol}
use Rattle.sil_grammar_tables.specs.declared.grammar.Production.{Production}
use Rattle.sil_grammar_shape.specs.declared.steps.Front.{Front}
use Rattle.sil_grammar_shape.specs.declared.steps.Step.{Step}
use Rattle.sil_grammar_shape.specs.declared.steps.Step.TheVariants.{Take, Expand}
use Rattle.sil_grammar_shape.specs.inner.Begun.{LeadsTo}
use Rattle.sil_grammar_shape.specs.Derivation.{Derives, token, rule, start}
use Rattle.sil_grammar_tables.specs.Grammar.{body}
use Rattle.sil_grammar_shape.specs.Shortest.{Shortens}
use Rattle.sil_grammar_shape.specs.inner.Values.{takes_of}
use Rattle.sil_grammar_shape.proofs.Shortened.{shortened, Shortens-derives}
use Rattle.sil_grammar_shape.proofs.ValuesLemmas.{takes_of-append, takes_of-derives}
use Rattle.sil_grammar.specs.Completion.{Completes, IsShortestFrom, behind, taken, expanded}
use Rattle.sil_grammar.specs.inner.Left.{after, left_after, AreDecided, IsCut}

-- what is left after some steps is what they go on with
goes_on : (steps : List Step) {ss : List Symbol} (ks more : List Class) (rest : List Step) → takes_of steps ≡ length ks
    → Derives ss (ks ++ more) (steps ++ rest) → (others : List Class) (other : List Step) → Derives (left_after steps ss) others other
    → Derives ss (ks ++ others) (steps ++ other)
unfolding after
goes_on [] [] more rest same d others other e = e
goes_on [] (k ∷ ks) more rest same d others other e = absurd (omega (arith, same))
goes_on (Take ∷ steps) [] more rest same d others other e = absurd (omega (arith, same))
goes_on (Take ∷ steps) (k ∷ ks) more rest same (token a d) others other e = token a (goes_on steps ks more rest (omega (arith, same)) d others other e)
goes_on (Expand p ∷ steps) [] more rest same (rule _ d) others other e = rule p (goes_on steps [] more rest same d others other e)
goes_on (Expand p ∷ steps) (k ∷ ks) more rest same (rule _ d) others other e = rule p (goes_on steps (k ∷ ks) more rest same d others other e)

-- decided steps and the shortest way to write what they leave
completes : (steps : List Step) {ss : List Symbol} (ks more : List Class) (rest : List Step) → AreDecided steps → takes_of steps ≡ length ks
    → Derives ss (ks ++ more) (steps ++ rest) → (way : List Step) → Shortens (left_after steps ss) way → Completes ss ks (steps ++ way)
unfolding after
completes [] [] more rest decided same d way h = behind h
completes [] (k ∷ ks) more rest decided same d way h = absurd (omega (arith, same))
completes (Take ∷ steps) [] more rest decided same d way h = absurd (omega (arith, same))
completes (Take ∷ steps) (k ∷ ks) more rest decided same (token a d) way h = taken a (completes steps ks more rest decided (omega (arith, same)) d way h)
completes (Expand p ∷ steps) [] more rest decided same d way h = absurd (omega (arith, same, decided.0))
completes (Expand p ∷ steps) (k ∷ ks) more rest decided same (rule _ d) way h = expanded p (completes steps (k ∷ ks) more rest decided.1 same d way h)

-- a step is done to what is left
pub after_take : (step : Step) (left popped : List Symbol) → ((p : Production) → step ≡ Expand p → ⊥) → popped ≡ drop 1 left → popped ≡ after step left
unfolding after
after_take Take left popped not is = is
after_take (Expand p) left popped not is = absurd (not p refl)

pub after_expand : (step : Step) (p : Production) (left popped pushed : List Symbol) → step ≡ Expand p → popped ≡ drop 1 left → pushed ≡ body p ++ popped
    → pushed ≡ after step left
unfolding after
after_expand step p left popped pushed is rest more = rw is (more ∙ ap (λ l. body p ++ l) rest)

-- up to a token all is decided
some_taken : (steps : List Step) (i : ℕ) (d : Step) → i < length steps → slice_index_or steps i d ≡ Take → 0 < takes_of (take (suc i) steps)
some_taken [] i d inside is = absurd (omega (arith, inside))
some_taken (Take ∷ steps) i d inside is = omega arith
some_taken (Expand p ∷ steps) zero d inside is = absurd (cc)
some_taken (Expand p ∷ steps) (suc i) d inside is = some_taken steps i d (omega (arith, inside)) is

decided : (steps : List Step) (i : ℕ) (d : Step) → i < length steps → slice_index_or steps i d ≡ Take → AreDecided (take (suc i) steps)
decided [] i d inside is = absurd (omega (arith, inside))
decided (Take ∷ steps) zero d inside is = tt
decided (Take ∷ steps) (suc i) d inside is = decided steps i d (omega (arith, inside)) is
decided (Expand p ∷ steps) zero d inside is = absurd (cc)
decided (Expand p ∷ steps) (suc i) d inside is = (some_taken steps i d (omega (arith, inside)) is, decided steps i d (omega (arith, inside)) is)

pub decided_to : (steps : List Step) (i j : ℕ) (d : Step) → i < length steps → slice_index_or steps i d ≡ Take → j ≡ i + 1 → AreDecided (take j steps)
decided_to steps i j d inside is next = subst (λ n. AreDecided (take n steps)) (sym (next ∙ add-one i)) (decided steps i d inside is)

module _ (classes : List Class) (front cut : Front) (leads : LeadsTo classes front.steps.items (reverse front.left.items)) (is : IsCut front cut) where
  -- a module that begins with the classes, by these steps and more
  record Whole : Type 0 where
    pub more : List Class
    pub rest : List Step
    pub derives : Derives start (classes ++ more) (cut.steps.items ++ rest)
    pub taken : takes_of cut.steps.items ≡ length classes

  whole : Whole
  whole =
      let way = shortened (reverse front.left.items) in
      let behind = Shortens-derives way.1 in
      let all : Derives start (classes ++ behind.0) (front.steps.items ++ way.0) = leads behind.0 way.0 behind.1 in
      let here : front.steps.items ++ way.0 ≡ cut.steps.items ++ (is.behind ++ way.0) =
      ap (λ l. l ++ way.0) is.steps_are ∙ append_assoc cut.steps.items is.behind way.0 in
      let derives = subst (Derives start (classes ++ behind.0)) here all in
      record {
        more = behind.0;
        rest = is.behind ++ way.0;
        derives = derives;
        taken = omega (
          arith,
          takes_of-derives derives,
          takes_of-derives behind.1,
          takes_of-append cut.steps.items (is.behind ++ way.0),
          takes_of-append is.behind way.0,
          is.none_behind,
          length-append classes behind.0,
        );
      }

  pub cut_leads : LeadsTo classes cut.steps.items (reverse cut.left.items)
  cut_leads more rest d = goes_on cut.steps.items classes whole.more whole.rest whole.taken whole.derives more rest (subst (λ ss. Derives ss more rest) is.left d)

  pub cut_completes : (way : List Step) → Shortens (reverse cut.left.items) way → IsShortestFrom classes (cut.steps.items ++ way)
  cut_completes way h = completes cut.steps.items classes whole.more whole.rest is.decided whole.taken whole.derives way (subst (λ ss. Shortens ss way) is.left h)
