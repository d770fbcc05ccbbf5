-- What the steps of a derivation stand for is what their replay comes to, step by step, and what is at fault in them is what
-- the replay finds.
use Rattle.std.proofs.Common.{◌≡◌, ◌≤◌, suc, List, [], ◌∷◌, ◌++◌, length, take, drop, ap, ap₂, sym, refl, subst, ◌∙◌, arith}
use Rattle.std.proofs.Math.Seq.{drop-append_seam, take-append_seam}
use Rattle.std.proofs.lemmas.List.{length-map, take-append-drop}
use Rattle.sil_lexer.specs.Lexes.{Lexeme}
use Rattle.sil_grammar_tables.specs.declared.grammar.Production.{Production}
use Rattle.sil_grammar_tables.specs.declared.grammar.Symbol.{Symbol}
use Rattle.sil_grammar_tables.specs.declared.grammar.Symbol.TheVariants.{Read, Part}
use Rattle.sil_grammar_shape.specs.declared.steps.Step.{Step}
use Rattle.sil_grammar_shape.specs.declared.steps.Step.TheVariants.{Take}
use Rattle.sil_grammar_shape.specs.Derivation.{Accepts, Derives}
use Rattle.sil_grammar_shape.specs.Derivation.Derives.{nothing as derived_nothing, token as derived_token, rule as derived_rule}
use Rattle.sil_grammar_tables.specs.Grammar.{body}
use Rattle.sil_grammar_classes.specs.declared.classes.Class.{Class}
use Rattle.sil_grammar_modules.specs.Leaves.{kept_of, leaf_of}
use Rattle.sil_grammar_values.specs.inner.Meaning.{meaning}
use Rattle.sil_grammar_values.specs.Opened.{PartValue}
use Rattle.sil_grammar_values.specs.inner.PartFaults.{part_fault}
use Rattle.sil_grammar_modules.specs.inner.Replay.{first_fault, replay}
use Rattle.sil_grammar_values.specs.inner.Reduced.{parts_of, reduced}
use Rattle.sil_grammar_values.specs.Values.{no_token}
use Rattle.sil_grammar_values.specs.Variants as v
use Rattle.sil_grammar_tree.specs.declared.written_tree.fault.Fault.{Fault}
use Rattle.sil_grammar_tree.specs.WrittenTree.Faults.{earlier}
use Rattle.sil_grammar.specs.SpelledPartsLaws.inner.Laws.{AreReplayed, AreToldByReplay}
use Rattle.sil_grammar.specs.SpelledPartsLaws.Reading.{HasFaults, HasFaults as found, Reads, Reads as reads}
use Rattle.sil_grammar.proofs.SpelledPartsLaws.Agreement.{Agrees, agrees}
use Rattle.sil_grammar.proofs.SpelledPartsLaws.FaultLists.{first-append, first_of, found_first, is_first, none_first}
use Rattle.sil_grammar.proofs.SpelledPartsLaws.ValueKinds.{AreOf, IsOf, back_of, front_of}

-- what the replay comes to is of the symbols' kinds, whether tokens are lacking or not

leaf_kind : (s : Symbol) (class : Class) (l : Lexeme) → Accepts s class → IsOf s (leaf_of l)
leaf_kind (Read terminal) class l accepted = (record { text = kept_of l.kind l.spelling; place = l.place }, refl)
leaf_kind (Part part) class l accepted = absurd accepted

lacking_kind : (s : Symbol) (class : Class) → Accepts s class → IsOf s (v.Token no_token)
lacking_kind (Read terminal) class accepted = (no_token, refl)
lacking_kind (Part part) class accepted = absurd accepted

kinds_at : {ss : List Symbol} {ks : List Class} {steps : List Step} → Derives ss ks steps → (lexemes : List Lexeme) → AreOf ss (replay steps lexemes)
unfolding reduced
kinds_at derived_nothing lexemes = tt
kinds_at (derived_token {s = s} {k = class} accepted rest) [] = (lacking_kind s class accepted, kinds_at rest [])
kinds_at (derived_token {s = s} {k = class} accepted rest) (l ∷ lexemes) = (leaf_kind s class l accepted, kinds_at rest lexemes)
kinds_at (derived_rule {ss = ss} {steps = steps} q rest) lexemes =
    let values : List PartValue = replay steps lexemes in
    let g = kinds_at rest lexemes in
    ((agrees q (parts_of q values) (front_of (body q) ss values g)).means.kind, back_of (body q) ss values g)

AreOf-length : (ss : List Symbol) (values : List PartValue) → AreOf ss values → length values ≡ length ss
AreOf-length [] [] g = refl
AreOf-length (s ∷ ss) (value ∷ values) g = ap suc (AreOf-length ss values g.1)
AreOf-length _ _ g = absurd g

-- the steps stand for what the replay comes to, and all that is at fault is found

pub record Told (steps : List Step) (lexemes : List Lexeme) : Type 0 where
  pub reading : Reads steps lexemes (replay steps lexemes)
  pub faults : List Fault
  pub all : HasFaults steps lexemes faults
  pub first : first_of faults ≡ first_fault steps lexemes

pub told : {ss : List Symbol} {ks : List Class} {steps : List Step} → Derives ss ks steps → (lexemes : List Lexeme) → length lexemes ≤ length ks → Told steps lexemes
unfolding reduced
told derived_nothing [] h = record { reading = reads.nothing; faults = []; all = found.nothing; first = refl }
told derived_nothing (l ∷ lexemes) h = absurd (omega (arith, h))
told (derived_token accepted rest) [] h =
    let t = told rest [] (omega arith) in
    record { reading = reads.lacking t.reading; faults = t.faults; all = found.token t.all; first = t.first }
told (derived_token accepted rest) (l ∷ lexemes) h =
    let t = told rest lexemes (omega (arith, h)) in
    record { reading = reads.token l t.reading; faults = t.faults; all = found.token t.all; first = t.first }
told (derived_rule {ss = ss} {steps = steps} q rest) lexemes h =
    let values : List PartValue = replay steps lexemes in
    let t = told rest lexemes h in
    let kinds = front_of (body q) ss values (kinds_at rest lexemes) in
    let a = agrees q (parts_of q values) kinds in
    let long = AreOf-length (body q) (parts_of q values) kinds in
    let whole : Reads steps lexemes (parts_of q values ++ drop (length (body q)) values) = subst (Reads steps lexemes) (sym (take-append-drop (length (body q)) values)) t.reading in
    record {
      reading = reads.production q (parts_of q values) whole long a.means.stands;
      faults = a.faults.own ++ t.faults;
      all = found.production q (parts_of q values) (drop (length (body q)) values) a.faults.own t.faults whole long a.faults.listed t.all;
      first = first-append a.faults.own t.faults ∙ ap₂ earlier a.faults.first t.first;
    }

-- and for nothing else

pub take_parts : (q : Production) (parts values : List PartValue) → length parts ≡ length (body q) → parts_of q (parts ++ values) ≡ parts
take_parts q parts values e = subst (λ n. take n (parts ++ values) ≡ parts) e (take-append_seam parts values)

pub drop_parts : (q : Production) (parts values : List PartValue) → length parts ≡ length (body q) → drop (length (body q)) (parts ++ values) ≡ values
drop_parts q parts values e = subst (λ n. drop n (parts ++ values) ≡ values) e (drop-append_seam parts values)

-- the parts that a production reads are those that the replay takes
record SameParts (q : Production) (replayed parts values : List PartValue) : Type 0 where
  taken : parts_of q replayed ≡ parts
  left : drop (length (body q)) replayed ≡ values
  agreed : Agrees q parts

same_parts : (q : Production) (ss : List Symbol) (replayed parts values : List PartValue) → AreOf (body q ++ ss) replayed → parts ++ values ≡ replayed
    → length parts ≡ length (body q) → SameParts q replayed parts values
same_parts q ss replayed parts values kinds same long =
    let taken : parts_of q replayed ≡ parts = ap (parts_of q) (sym same) ∙ take_parts q parts values long in
    record {
      taken = taken;
      left = ap (drop (length (body q))) (sym same) ∙ drop_parts q parts values long;
      agreed = agrees q parts (subst (AreOf (body q)) taken (front_of (body q) ss replayed kinds));
    }

pub read_same : {ss : List Symbol} {ks : List Class} {steps : List Step} {lexemes : List Lexeme} {values : List PartValue} → Derives ss ks steps → Reads steps lexemes values
    → values ≡ replay steps lexemes
unfolding reduced
read_same derived_nothing reads.nothing = refl
read_same (derived_token accepted rest) (reads.token l r) = ap (λ vs. leaf_of l ∷ vs) (read_same rest r)
read_same (derived_token accepted rest) (reads.lacking r) = ap (λ vs. v.Token no_token ∷ vs) (read_same rest r)
read_same (derived_rule {ss = ss} {steps = steps} q rest) (reads.production {lexemes = lexemes} {value = value} {values = values} _ parts r long means) =
    let s = same_parts q ss (replay steps lexemes) parts values (kinds_at rest lexemes) (read_same rest r) long in
    ap₂ (λ x xs. x ∷ xs) (s.agreed.means.back value means ∙ ap (meaning q) (sym s.taken)) (sym s.left)

behind_token : (steps : List Step) (lexemes : List Lexeme) → first_fault steps (drop 1 lexemes) ≡ first_fault (Take ∷ steps) lexemes
behind_token steps [] = refl
behind_token steps (l ∷ lexemes) = refl

pub faults_same : {ss : List Symbol} {ks : List Class} {steps : List Step} {lexemes : List Lexeme} {faults : List Fault} → Derives ss ks steps → HasFaults steps lexemes faults
    → first_of faults ≡ first_fault steps lexemes
faults_same derived_nothing found.nothing = refl
faults_same (derived_token {steps = steps} accepted rest) (found.token {lexemes = lexemes} h) = faults_same rest h ∙ behind_token steps lexemes
faults_same (derived_rule {ss = ss} {steps = steps} q rest) (found.production {lexemes = lexemes} _ parts values own others r long at h) =
    let s = same_parts q ss (replay steps lexemes) parts values (kinds_at rest lexemes) (read_same rest r) long in
    let here : first_of own ≡ part_fault q (parts_of q (replay steps lexemes)) =
    ap first_of (s.agreed.faults.only own at) ∙ s.agreed.faults.first ∙ ap (part_fault q) (sym s.taken) in
    first-append own others ∙ ap₂ earlier here (faults_same rest h)

pub told_by_replay : AreToldByReplay
told_by_replay ss classes steps lexemes d h =
    let t = told d lexemes h in
    record {
      values = λ values. (λ r. sym (read_same d r), λ e. subst (Reads steps lexemes) e t.reading);
      none = (λ all. sym (faults_same d all), λ e. subst (HasFaults steps lexemes) (none_first t.faults (t.first ∙ e)) t.all);
      first = λ fault. (λ f. sym (faults_same d f.all) ∙ found_first f.first, λ e. record { faults = t.faults; all = t.all; first = is_first t.faults fault (t.first ∙ e) });
    }

pub stood_for : AreReplayed
stood_for class_of ss lexemes values = (
  λ s.
      record { steps = s.steps; derived = s.derived; no_fault = sym (faults_same s.derived s.faultless); same = sym (read_same s.derived s.reading) },
  λ r.
      let t = told r.derived lexemes (omega (arith, length-map lexemes class_of)) in
      record {
        steps = r.steps;
        derived = r.derived;
        reading = subst (Reads r.steps lexemes) r.same t.reading;
        faultless = subst (HasFaults r.steps lexemes) (none_first t.faults (t.first ∙ r.no_fault)) t.all;
      },
)
