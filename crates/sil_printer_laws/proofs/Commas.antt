-- Lists with a comma between two items, whatever the items are.
use Rattle.std.proofs.Common.{◌≡◌, ℕ, List, [], ◌∷◌, ◌++◌, None, codes, flat_map, refl, sym, subst}
use Rattle.std.proofs.lemmas.List.{append_assoc}
use Rattle.sil_printer.specs.Words.{listed}
use Rattle.sil_grammar_classes.specs.declared.classes.Punctuation.TheVariants as m
use Rattle.sil_grammar_tables.specs.declared.grammar.Nonterminal.{Nonterminal}
use Rattle.sil_grammar_tables.specs.declared.grammar.Production.{Production}
use Rattle.sil_grammar_tables.specs.declared.grammar.Symbol.{Symbol}
use Rattle.sil_grammar_tables.specs.declared.grammar.Symbol.TheVariants.{Read, Part}
use Rattle.sil_grammar_tables.specs.Grammar.{body, written}
use Rattle.sil_grammar_tables.specs.Terminals.{punctuation}
use Rattle.sil_grammar_classes.specs.Spelling.{punctuation_of, punctuation_spelling, signs}
use Rattle.sil_grammar_values.specs.inner.Meaning.{meaning}
use Rattle.sil_grammar_values.specs.Opened.{PartValue}
use Rattle.sil_grammar_values.specs.inner.PartFaults.{part_fault}
use Rattle.numbered_form.specs.Lists.{Each}
use Rattle.sil_printer_laws.proofs.Pieces.{Ends, Reads, Reads as reads, ReadsAs, ReadsOne, behind}
use Rattle.sil_printer_laws.proofs.Tokens.{punctuation_token}

-- a production that writes a part by these symbols, and is never at fault
abbrev pub Writes : Production → Nonterminal → List Symbol → Type 0
Writes p part symbols = (written p ≡ part) × (body p ≡ symbols) × ((parts : List PartValue) → part_fault p parts ≡ None)

-- where part and body of a production are known
pub by_rule : {text : List ℕ} {part : Nonterminal} {symbols ss : List Symbol} {left middle : List ℕ} {parts values : List PartValue} {after : List ℕ}
    → (p : Production) → written p ≡ part → body p ≡ symbols → Reads text symbols left parts middle → part_fault p parts ≡ None
    → Reads text ss middle values after → Reads text (Part part ∷ ss) left (meaning p parts ∷ values) after
by_rule {text = text} {ss = ss} {left = left} {middle = middle} {parts = parts} {values = values} {after = after} p is_written is_body inside faultless r =
    subst (λ part. Reads text (Part part ∷ ss) left (meaning p parts ∷ values) after) is_written
    (reads.rule p (subst (λ symbols. Reads text symbols left parts middle) (sym is_body) inside) faultless r)

-- the items behind the first, each behind a comma
abbrev pub more_text : {A : Type 0} → (A → List ℕ) → List A → List ℕ
more_text write items = flat_map (λ item. codes ", " ++ write item) items

ends_more : {A : Type 0} (write : A → List ℕ) (items : List A) (after : List ℕ) → Ends after → Ends (more_text write items ++ after)
ends_more write [] after ends = ends
ends_more write (item ∷ items) after ends = refl

-- the two productions that write the items behind the first, and what their values make together
pub record MoreItems {A : Type 0} (item : Symbol) (more : Nonterminal) (Is : A → PartValue → Type 0) (Are : List A → PartValue → Type 0) : Type 0 where
  pub again : Production
  pub end : Production
  pub again_is : Writes again more (Read (punctuation m.Comma) ∷ item ∷ Part more ∷ [])
  pub again_makes : (x : A) (xs : List A) (comma first others : PartValue) → Is x first → Are xs others → Are (x ∷ xs) (meaning again (comma ∷ first ∷ others ∷ []))
  pub end_is : Writes end more []
  pub end_makes : Are [] (meaning end [])

-- the two productions that write all items, or that there are none
pub record AllItems {A : Type 0} (item : Symbol) (more all : Nonterminal) (Is : A → PartValue → Type 0) (Are : List A → PartValue → Type 0) : Type 0 where
  pub others : MoreItems item more Is Are
  pub some : Production
  pub none : Production
  pub some_is : Writes some all (item ∷ Part more ∷ [])
  pub some_makes : (x : A) (xs : List A) (first others : PartValue) → Is x first → Are xs others → Are (x ∷ xs) (meaning some (first ∷ others ∷ []))
  pub none_is : Writes none all []
  pub none_makes : Are [] (meaning none [])

-- an item, and those behind it
pub record ReadsListed (text : List ℕ) {A : Type 0} (item : Symbol) (more : Nonterminal) (Is : A → PartValue → Type 0) (Are : List A → PartValue → Type 0)
    (x : A) (xs : List A) (left after : List ℕ) : Type 0 where
  pub first : PartValue
  pub others : PartValue
  pub is_first : Is x first
  pub are_others : Are xs others
  pub reads : Reads text (item ∷ Part more ∷ []) left (first ∷ others ∷ []) after

module _ (text : List ℕ) {A : Type 0} (item : Symbol) (more : Nonterminal) (Is : A → PartValue → Type 0) (Are : List A → PartValue → Type 0)
    (write : A → List ℕ) where
  in_front : (x : A) (xs : List A) → ReadsAs text item (Is x) (write x) → ReadsAs text (Part more) (Are xs) (more_text write xs)
      → (after : List ℕ) → Ends after → ReadsListed text item more Is Are x xs (listed write (x ∷ xs) ++ after) after
  in_front x xs here behind_it after ends =
      let first = here (more_text write xs ++ after) (ends_more write xs after ends) in
      let others = behind_it after ends in
      record {
        first = first.value;
        others = others.value;
        is_first = first.stands;
        are_others = others.stands;
        reads = rw (append_assoc (write x) (more_text write xs) after) (behind first.reads others.reads);
      }

  one_more : {left after : List ℕ} {comma first others : PartValue} → (rules : MoreItems item more Is Are) (x : A) (xs : List A) → Is x first → Are xs others
      → Reads text (Read (punctuation m.Comma) ∷ item ∷ Part more ∷ []) left (comma ∷ first ∷ others ∷ []) after → ReadsOne text (Part more) (Are (x ∷ xs)) left after
  one_more rules x xs is_first are_others r = record {
    value = _;
    stands = rules.again_makes x xs _ _ _ is_first are_others;
    reads = by_rule rules.again rules.again_is.0 rules.again_is.1 r (rules.again_is.2 _) reads.nothing;
  }

  pub more_reads : (rules : MoreItems item more Is Are) (xs : List A) → Each (λ x. ReadsAs text item (Is x) (write x)) xs → ReadsAs text (Part more) (Are xs) (more_text write xs)
  unfolding punctuation_of punctuation_spelling signs
  more_reads rules [] each after ends = record {
    value = _;
    stands = rules.end_makes;
    reads = by_rule rules.end rules.end_is.0 rules.end_is.1 reads.nothing (rules.end_is.2 _) reads.nothing;
  }
  more_reads rules (x ∷ xs) each after ends =
      let r = in_front x xs each.0 (more_reads rules xs each.1) after ends in
      one_more rules x xs r.is_first r.are_others (punctuation_token 44 refl refl (reads.blank 32 refl r.reads))

  pub listed_reads : (rules : MoreItems item more Is Are) (x : A) (xs : List A) → ReadsAs text item (Is x) (write x) → Each (λ x. ReadsAs text item (Is x) (write x)) xs
      → (after : List ℕ) → Ends after → ReadsListed text item more Is Are x xs (listed write (x ∷ xs) ++ after) after
  listed_reads rules x xs here each after ends = in_front x xs here (more_reads rules xs each) after ends

  pub list_reads : (all : Nonterminal) (rules : AllItems item more all Is Are) (xs : List A) → Each (λ x. ReadsAs text item (Is x) (write x)) xs
      → ReadsAs text (Part all) (Are xs) (listed write xs)
  list_reads all rules [] each after ends = record {
    value = _;
    stands = rules.none_makes;
    reads = by_rule rules.none rules.none_is.0 rules.none_is.1 reads.nothing (rules.none_is.2 _) reads.nothing;
  }
  list_reads all rules (x ∷ xs) each after ends =
      let r = listed_reads rules.others x xs each.0 each.1 after ends in
      record {
        value = _;
        stands = rules.some_makes x xs _ _ r.is_first r.are_others;
        reads = by_rule rules.some rules.some_is.0 rules.some_is.1 r.reads (rules.some_is.2 _) reads.nothing;
      }
