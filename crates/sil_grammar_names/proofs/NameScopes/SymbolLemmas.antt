-- What a table holds once a name is added.
use Rattle.std.proofs.Common.{◌≡◌, Bool, true, false, List, [], ◌∷◌, refl, sym, ap, ◌∙◌, is_some}
use Rattle.std.specs.Prelude.{ℕ, Option, Some, None, if◌then◌else◌, unwrap_or}
use Rattle.std.specs.Map.{lookup}
use Rattle.std.specs.Option.{option_or}
use Rattle.std.specs.Str.{bytes_eq}
use Rattle.std.specs.Cmp.Lexicographic.{bytes_decides}
use Rattle.std.proofs.lemmas.Map.Made.{is_some-lookup}
use Rattle.indexmap.specs.IndexMap.{insert_entry}
use Rattle.sil_grammar_tree.specs.declared.written_tree.fault.FaultKind.TheVariants.{Twice}
use Rattle.sil_grammar_tree.specs.declared.written_tree.written_declarations.WrittenToken.{WrittenToken}
use Rattle.sil_grammar_tree.specs.WrittenTree.Faults.{earlier, fault}
use Rattle.sil_grammar_tree.proofs.WrittenTree.FaultOrder.{earlier-none}
use Rattle.sil_grammar_names.specs.NameScopes.NameFaults.{is_among}
use Rattle.sil_grammar_names.specs.NameScopes.Names.{Name}
use Rattle.sil_grammar_names.specs.NameScopes.inner.Symbols.{Symbols, names_in, with_kept, with_name}

pub among_names : (t : Symbols) (token : WrittenToken) → is_among (names_in t) token ≡ is_some (lookup (bytes_eq token.text) t.entries)
among_names t token = sym (is_some-lookup (bytes_eq token.text) t.entries)

-- with these entries in the place of its own
abbrev pub with_entries : Symbols → List (Name × Option ℕ) → Symbols
with_entries t entries = record { entries = entries; count = t.count; twice = t.twice }

-- the name is new
pub added : (t : Symbols) (token : WrittenToken) (number : Option ℕ) → lookup (bytes_eq token.text) t.entries ≡ None
    → with_entries t (insert_entry bytes_eq t.entries token.text number) ≡ with_name t token number
added t token number absent = sym (
    ap (λ found. record {
      entries = insert_entry bytes_eq t.entries token.text (option_or (unwrap_or found None) number);
      count = t.count;
      twice = earlier t.twice (if is_among (names_in t) token then Some (fault Twice token.place) else None);
    }) absent
    ∙ ap (λ among. record { entries = insert_entry bytes_eq t.entries token.text number; count = t.count; twice = earlier t.twice (if among then Some (fault Twice token.place) else None) })
    (among_names t token ∙ ap is_some absent)
    ∙ ap (λ twice. record { entries = insert_entry bytes_eq t.entries token.text number; count = t.count; twice = twice }) (earlier-none t.twice))

insert_again : (entries : List (Name × Option ℕ)) (name : Name) (a b : Option ℕ) → insert_entry bytes_eq (insert_entry bytes_eq entries name a) name b ≡ insert_entry bytes_eq entries name b
insert_again [] name a b = ap (λ same. if same then (name, b) ∷ [] else (name, a) ∷ (name, b) ∷ []) ((bytes_decides name name).1 refl)
insert_again (e ∷ es) name a b = by (bytes_eq name e.0) refl (insert_again es name a b)
  where
    by : (same : Bool) → bytes_eq name e.0 ≡ same → insert_entry bytes_eq (insert_entry bytes_eq es name a) name b ≡ insert_entry bytes_eq es name b
        → insert_entry bytes_eq (insert_entry bytes_eq (e ∷ es) name a) name b ≡ insert_entry bytes_eq (e ∷ es) name b
    by true h rest =
        ap (λ same. insert_entry bytes_eq (if same then (e.0, a) ∷ es else e ∷ insert_entry bytes_eq es name a) name b) h
        ∙ ap (λ same. if same then (e.0, b) ∷ es else (e.0, a) ∷ insert_entry bytes_eq es name b) h
        ∙ sym (ap (λ same. if same then (e.0, b) ∷ es else e ∷ insert_entry bytes_eq es name b) h)
    by false h rest =
        ap (λ same. insert_entry bytes_eq (if same then (e.0, a) ∷ es else e ∷ insert_entry bytes_eq es name a) name b) h
        ∙ ap (λ same. if same then (e.0, b) ∷ insert_entry bytes_eq es name a else e ∷ insert_entry bytes_eq (insert_entry bytes_eq es name a) name b) h
        ∙ ap (λ l. e ∷ l) rest
        ∙ sym (ap (λ same. if same then (e.0, b) ∷ es else e ∷ insert_entry bytes_eq es name b) h)

-- the name stood before
pub kept : (t : Symbols) (token : WrittenToken) (number before : Option ℕ) → lookup (bytes_eq token.text) t.entries ≡ Some before
    → with_kept (with_entries t (insert_entry bytes_eq t.entries token.text number)) token before ≡ with_name t token number
kept t token number before there = by before there ∙ sym twice
  where
    twice : with_name t token number ≡ record {
      entries = insert_entry bytes_eq t.entries token.text (option_or before number);
      count = t.count;
      twice = earlier t.twice (Some (fault Twice token.place));
    }
    twice =
        ap (λ found. record {
          entries = insert_entry bytes_eq t.entries token.text (option_or (unwrap_or found None) number);
          count = t.count;
          twice = earlier t.twice (if is_among (names_in t) token then Some (fault Twice token.place) else None);
        }) there
        ∙ ap (λ among. record {
          entries = insert_entry bytes_eq t.entries token.text (option_or before number);
          count = t.count;
          twice = earlier t.twice (if among then Some (fault Twice token.place) else None);
        }) (among_names t token ∙ ap is_some there)

    by : (before : Option ℕ) → lookup (bytes_eq token.text) t.entries ≡ Some before
        → with_kept (with_entries t (insert_entry bytes_eq t.entries token.text number)) token before
        ≡ record { entries = insert_entry bytes_eq t.entries token.text (option_or before number); count = t.count; twice = earlier t.twice (Some (fault Twice token.place)) }
    by None h = refl
    by (Some n) h = ap (λ entries. record { entries = entries; count = t.count; twice = earlier t.twice (Some (fault Twice token.place)) }) (insert_again t.entries token.text number (Some n))
