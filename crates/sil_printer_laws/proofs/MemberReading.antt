-- The printed name of a member reads as itself.
use Rattle.std.proofs.Common.{◌≡◌, ℕ, List, [], ◌∷◌, ◌++◌, refl, codes}
use Rattle.std.proofs.lemmas.List.{append_assoc}
use Rattle.sil_ast.specs.declared.member.Member.{Member}
use Rattle.sil_printer.specs.CanonicalInsts.{case_name, field_name}
use Rattle.sil_grammar_tables.specs.Grammar.{body, written}
use Rattle.sil_grammar_classes.specs.Spelling.{keyword_of, keywords, known_keyword, punctuation_of, punctuation_spelling, signs, spelling}
use Rattle.sil_grammar_tables.specs.declared.grammar.Nonterminal.TheVariants as n
use Rattle.sil_grammar_tables.specs.declared.grammar.Production.TheVariants as p
use Rattle.sil_grammar_modules.specs.Leaves.{kept_of}
use Rattle.sil_grammar_values.specs.inner.Meaning.{meaning}
use Rattle.sil_grammar_values.specs.inner.PartFaults.{part_fault}
use Rattle.sil_grammar_values.specs.Values.{member_of, token_of}
use Rattle.numbered_form.specs.Names.{IsMemberSpelled}
use Rattle.sil_printer_laws.proofs.Pieces.{Ends, Reads as reads, Stands}
use Rattle.sil_printer_laws.proofs.ProductionReading.{stands_by}
use Rattle.sil_printer_laws.proofs.Tokens.{punctuation_token, word_token}

-- `#T.m`
pub field_reads : (text : List ℕ) (m : Member) (after : List ℕ) → IsMemberSpelled m → Ends after
    → Stands text n.MemberName (λ x. member_of x ≡ m) (field_name m ++ after) after
unfolding body written meaning part_fault member_of token_of kept_of punctuation_of punctuation_spelling signs
field_reads text m after spelled ends =
    rw (append_assoc (m.owner ++ 46 ∷ []) m.name after, append_assoc m.owner (46 ∷ []) (m.name ++ after))
    (stands_by p.WholeMemberName _ (punctuation_token 35 refl refl
    (word_token m.owner spelled.owner refl refl (punctuation_token 46 refl refl (word_token m.name spelled.name refl ends reads.nothing)))) refl refl)

-- `#E.c!enumelt`
pub case_reads : (text : List ℕ) (m : Member) (after : List ℕ) → IsMemberSpelled m → Ends after
    → Stands text n.EnumElement (λ x. member_of x ≡ m) (case_name m ++ after) after
unfolding body written meaning part_fault member_of token_of kept_of punctuation_of punctuation_spelling signs keyword_of known_keyword keywords spelling
case_reads text m after spelled ends =
    rw (
      append_assoc ((m.owner ++ 46 ∷ []) ++ m.name) (codes "!enumelt") after,
      append_assoc (m.owner ++ 46 ∷ []) m.name (codes "!enumelt" ++ after),
      append_assoc m.owner (46 ∷ []) (m.name ++ (codes "!enumelt" ++ after)),
    )
    (stands_by p.WholeEnumElement _
    (punctuation_token 35 refl refl (word_token m.owner spelled.owner refl refl (punctuation_token 46 refl refl (word_token m.name spelled.name refl refl
    (punctuation_token 33 refl refl (word_token (codes "enumelt") refl refl ends (reads.rule p.SuffixNone reads.nothing refl reads.nothing)))))))
    refl refl)
