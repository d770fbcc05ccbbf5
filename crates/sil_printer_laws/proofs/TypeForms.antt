-- The forms of a printed type, each over the types that stand in it.
use Rattle.std.proofs.Common.{◌≡◌, ℕ, ◌+◌, ◌≤◌, List, [], ◌∷◌, ◌++◌, None, Option, Bool, true, false, if◌then◌else◌, nat_lt, codes, decimal, refl, ap, sym, subst, ◌∙◌, arith, IsTrue, ◌⊎◌, inl, inr}
use Rattle.std.specs.Fmt.{digits}
use Rattle.std.proofs.lemmas.List.{append_assoc}
use Rattle.std.proofs.lemmas.Bool.Decides.{nat_tests}
use Rattle.sil_ast.specs.declared.place.Place.{Place}
use Rattle.sil_ast.specs.declared.type_name.TypeName.{TypeName}
use Rattle.sil_ast.specs.declared.type_name.TypeName.TheVariants as ty
use Rattle.sil_grammar_classes.specs.declared.classes.Keyword.{Keyword}
use Rattle.sil_grammar_classes.specs.declared.classes.Keyword.TheVariants as k
use Rattle.sil_grammar_classes.specs.declared.classes.AtWord.TheVariants as a
use Rattle.sil_grammar_tables.specs.declared.grammar.Nonterminal.TheVariants as n
use Rattle.sil_grammar_tables.specs.declared.grammar.Production.{Production}
use Rattle.sil_grammar_tables.specs.declared.grammar.Production.TheVariants as p
use Rattle.sil_grammar_tables.specs.declared.grammar.Symbol.TheVariants.{Read, Part}
use Rattle.sil_grammar_shape.specs.Accepts.{is_type_word}
use Rattle.sil_grammar_tables.specs.Grammar as grammar
use Rattle.sil_grammar_tables.specs.Grammar.{body, written}
use Rattle.sil_grammar_tables.specs.Terminals.{word}
use Rattle.sil_grammar_classes.specs.Spelling.{at_spelling, at_word_of, at_words, keyword_of, keywords, known_at_word, known_keyword, punctuation_of, punctuation_spelling, signs, spelling}
use Rattle.sil_grammar_tree.specs.declared.written_tree.written_declarations.WrittenToken.{WrittenToken}
use Rattle.sil_grammar_tree.specs.declared.written_tree.fault.Fault.{Fault}
use Rattle.sil_grammar_modules.specs.Leaves.{kept_of}
use Rattle.sil_grammar_values.specs.inner.Meaning.{meaning}
use Rattle.sil_grammar_values.specs.Opened.{PartType, PartValue}
use Rattle.sil_grammar_values.specs.inner.PartFaults.{part_fault, too_deep, too_many_questions}
use Rattle.sil_grammar_values.specs.Types.{deeper, kept, tailed}
use Rattle.sil_grammar_values.specs.Values.{questions_of, token_of, type_of}
use Rattle.numbered_form.specs.Names.{is_word}
use Rattle.numbered_form.specs.inner.Types.{is_width}
use Rattle.sil_printer_laws.proofs.Commas.{by_rule}
use Rattle.sil_printer_laws.proofs.PartLimits.{not_too_deep, one_more_level, whole_type}
use Rattle.sil_printer_laws.proofs.Pieces.{Reads as reads, ReadsAs, Stands, behind}
use Rattle.sil_printer_laws.proofs.Tokens.{punctuation_token, word_token}
use Rattle.sil_printer_laws.proofs.WordReading.{word_accepted, worded_reads}

-- the part stands for the type, counted so deep
abbrev pub IsTypeOf : TypeName → ℕ → PartValue → Type 0
IsTypeOf t depth x = ((type_of x).ty ≡ t) × ((type_of x).depth ≡ depth)

either_way : (test : Bool) → ◌≡◌ {A = Option Fault} (if test then None else None) None
either_way true = refl
either_way false = refl

-- without a question mark there is no fault
pub no_questions_fault : (depth : ℕ) → too_many_questions depth [] ≡ None
no_questions_fault depth = either_way (nat_lt 32 depth)

module _ (text : List ℕ) where
  -- a base, with no `?` behind it
  pub base_open : (t : TypeName) (depth : ℕ) {left after : List ℕ} → Stands text n.Base (IsTypeOf t depth) left after → Stands text n.OpenType (IsTypeOf t depth) left after
  unfolding body written meaning part_fault type_of questions_of
  base_open t depth r = record {
    value = _;
    stands = r.stands;
    reads = reads.rule p.BaseOpen (behind r.reads (reads.rule p.QuestionsEnd reads.nothing refl reads.nothing)) (no_questions_fault (type_of r.value).depth) reads.nothing;
  }

  pub bare_type : (t : TypeName) (depth : ℕ) {left after : List ℕ} → Stands text n.OpenType (IsTypeOf t depth) left after → Stands text n.Type (IsTypeOf t depth) left after
  unfolding body written meaning part_fault
  bare_type t depth r = record { value = _; stands = r.stands; reads = reads.rule p.BareType r.reads refl reads.nothing }

-- names, of which two begin longer types as well

data WordSort : Keyword → Type 0 where
  builtin : WordSort k.Builtin
  optional : WordSort k.Optional
  other : {keyword : Keyword} → IsTrue (is_type_word keyword) → WordSort keyword

sort_of : (keyword : Keyword) → WordSort keyword
sort_of k.Builtin = builtin
sort_of k.Optional = optional
sort_of _ = other refl

module _ (text : List ℕ) where
  name_reads : (name : List ℕ) (keyword : Keyword) → keyword_of name ≡ keyword → WordSort keyword → IsTrue (is_word name)
      → ReadsAs text (Part n.Base) (IsTypeOf (ty.Named name) 1) name
  unfolding body written meaning part_fault type_of token_of tailed kept_of
  name_reads name _ e builtin spelled after ends = record {
    value = _;
    stands = (refl, refl);
    reads = reads.rule p.BuiltinBase (word_token name spelled (word_accepted name k.Builtin e) ends (reads.rule p.BuiltinName reads.nothing refl reads.nothing)) refl reads.nothing;
  }
  name_reads name _ e optional spelled after ends = record {
    value = _;
    stands = (refl, refl);
    reads = reads.rule p.OptionalBase (word_token name spelled (word_accepted name k.Optional e) ends (reads.rule p.OptionalName reads.nothing refl reads.nothing)) refl reads.nothing;
  }
  name_reads name keyword e (other h) spelled after ends = record {
    value = _;
    stands = (refl, refl);
    reads = reads.rule p.NamedBase (word_token name spelled (ap is_type_word e ∙ h) ends reads.nothing) refl reads.nothing;
  }

  pub named_reads : (name : List ℕ) → IsTrue (is_word name) → ReadsAs text (Part n.OpenType) (IsTypeOf (ty.Named name) 1) name
  named_reads name spelled after ends = base_open text (ty.Named name) 1 (name_reads name (keyword_of name) refl (sort_of (keyword_of name)) spelled after ends)

-- builtin integers

module _ (text : List ℕ) where
  -- by the production that writes the width
  by_width : (width : ℕ) (keyword : Keyword) (rule : Production) → written rule ≡ n.Width → body rule ≡ Read (word keyword) ∷ []
      → ((parts : List PartValue) → part_fault rule parts ≡ None)
      → ((token : WrittenToken) (parts : List PartValue) → ((tailed token (meaning rule parts)).ty ≡ ty.Int width) × ((tailed token (meaning rule parts)).depth ≡ 1))
      → IsTrue (is_word (codes "Int" ++ decimal width)) → keyword_of (codes "Int" ++ decimal width) ≡ keyword
      → ReadsAs text (Part n.OpenType) (IsTypeOf (ty.Int width) 1) (codes "Builtin.Int" ++ decimal width)
  unfolding body written meaning part_fault type_of token_of kept_of punctuation_of punctuation_spelling signs keyword_of known_keyword keywords spelling
  by_width width keyword rule is_written is_body faultless makes spelled known after ends = base_open text (ty.Int width) 1 (record {
    value = _;
    stands = makes _ _;
    reads = reads.rule p.BuiltinBase
        (word_token (codes "Builtin") refl refl refl
        (reads.rule p.BuiltinInt
        (punctuation_token 46 refl refl
        (by_rule rule is_written is_body
        (word_token (codes "Int" ++ decimal width) spelled (word_accepted (codes "Int" ++ decimal width) keyword known) ends reads.nothing)
        (faultless _) reads.nothing))
        refl reads.nothing))
        refl reads.nothing;
  })

one_of_widths : (width : ℕ) → IsTrue (is_width width) → (width ≡ 1) ⊎ ((width ≡ 8) ⊎ ((width ≡ 16) ⊎ ((width ≡ 32) ⊎ (width ≡ 64))))
one_of_widths width h = grind (arith, nat_tests)

pub int_reads : (text : List ℕ) (width : ℕ) → IsTrue (is_width width) → ReadsAs text (Part n.OpenType) (IsTypeOf (ty.Int width) 1) (codes "Builtin.Int" ++ decimal width)
unfolding written body meaning part_fault tailed keyword_of known_keyword keywords spelling digits
int_reads text width h =
    let as_int : ℕ → Type 0 = λ width. ReadsAs text (Part n.OpenType) (IsTypeOf (ty.Int width) 1) (codes "Builtin.Int" ++ decimal width) in
    elim (one_of_widths width h) [
      | inl e ↦ subst as_int (sym e) (by_width text 1 k.Int1 p.Width1 refl refl (λ parts. refl) (λ token parts. (refl, refl)) refl refl)
      | inr f ↦ elim f [
        | inl e ↦ subst as_int (sym e) (by_width text 8 k.Int8 p.Width8 refl refl (λ parts. refl) (λ token parts. (refl, refl)) refl refl)
        | inr f ↦ elim f [
          | inl e ↦ subst as_int (sym e) (by_width text 16 k.Int16 p.Width16 refl refl (λ parts. refl) (λ token parts. (refl, refl)) refl refl)
          | inr f ↦ elim f [
            | inl e ↦ subst as_int (sym e) (by_width text 32 k.Int32 p.Width32 refl refl (λ parts. refl) (λ token parts. (refl, refl)) refl refl)
            | inr e ↦ subst as_int (sym e) (by_width text 64 k.Int64 p.Width64 refl refl (λ parts. refl) (λ token parts. (refl, refl)) refl refl)
          ]
        ]
      ]
    ]

-- a type over another, one level deeper

level_over : (w : PartType) (t : TypeName) (depth : ℕ) (form : TypeName → TypeName) → w.ty ≡ t → w.depth ≡ depth → 1 + depth ≤ 32
    → (kept (deeper w.depth) (form w.ty) ≡ form t) × (deeper w.depth ≡ 1 + depth)
level_over w t depth form is_type is_depth room =
    let below : 1 + w.depth ≤ 32 = omega arith in
    (whole_type w.depth (form w.ty) below ∙ ap form is_type, one_more_level w.depth below ∙ ap (λ depth. 1 + depth) is_depth)

no_room_needed : (w : PartType) (depth : ℕ) (last : Place) → w.depth ≡ depth → 1 + depth ≤ 32 → too_deep w.depth last ≡ None
no_room_needed w depth last is_depth room = not_too_deep w.depth last (omega arith)

module _ (text : List ℕ) (t : TypeName) (depth : ℕ) (written : List ℕ) (inside : ReadsAs text (Part n.Type) (IsTypeOf t depth) written) (room : 1 + depth ≤ 32) where
  pub weak_reads : ReadsAs text (Part n.OpenType) (IsTypeOf (ty.Weak t) (1 + depth)) (codes "@sil_weak " ++ written)
  unfolding body grammar.written meaning part_fault type_of at_word_of known_at_word at_words at_spelling
  weak_reads after ends = worded_reads p.WeakOpen a.SilWeak refl refl refl refl
      (λ sigil inner is. level_over (type_of inner) t depth ty.Weak is.0 is.1 room)
      (λ sigil inner is. no_room_needed (type_of inner) depth _ is.1 room) (inside after ends)

  pub unowned_reads : ReadsAs text (Part n.OpenType) (IsTypeOf (ty.Unowned t) (1 + depth)) (codes "@sil_unowned " ++ written)
  unfolding body grammar.written meaning part_fault type_of at_word_of known_at_word at_words at_spelling
  unowned_reads after ends = worded_reads p.UnownedOpen a.SilUnowned refl refl refl refl
      (λ sigil inner is. level_over (type_of inner) t depth ty.Unowned is.0 is.1 room)
      (λ sigil inner is. no_room_needed (type_of inner) depth _ is.1 room) (inside after ends)

  pub optional_reads : ReadsAs text (Part n.OpenType) (IsTypeOf (ty.Optional t) (1 + depth)) (codes "Optional<" ++ written ++ codes ">")
  unfolding body grammar.written meaning part_fault type_of tailed punctuation_of punctuation_spelling signs keyword_of known_keyword keywords spelling
  optional_reads after ends =
      let r = inside (62 ∷ after) refl in
      rw (append_assoc written (codes ">") after) (base_open text (ty.Optional t) (1 + depth) (record {
        value = _;
        stands = level_over (type_of r.value) t depth ty.Optional r.stands.0 r.stands.1 room;
        reads = reads.rule p.OptionalBase
            (word_token (codes "Optional") refl refl refl
            (reads.rule p.OptionalOf
            (punctuation_token 60 refl refl (behind r.reads (punctuation_token 62 refl refl reads.nothing)))
            (no_room_needed (type_of r.value) depth _ r.stands.1 room) reads.nothing))
            refl reads.nothing;
      }))
