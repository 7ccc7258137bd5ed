-- The text of a block, written piece by piece.
use Rattle.std.proofs.Common.{◌≡◌, ℕ, List, [], ◌∷◌, ◌++◌, ap, ◌∙◌, sym, append_assoc, append-nil}
use Rattle.std.proofs.lemmas.List.Concat.{flat_map-append}
use Rattle.sha2.specs.Sha256.{sha256}
use Rattle.cs_show.specs.Text.{ended, text_of}

-- four lists of lines, and two lines
lists_of_lines : (shared rolls inters locals : List (List ℕ)) (line last : List ℕ)
    → ((((text_of shared ++ text_of rolls) ++ text_of inters) ++ text_of locals) ++ ended line) ++ ended last
    ≡ text_of (shared ++ rolls ++ inters ++ locals ++ line ∷ last ∷ [])
lists_of_lines shared rolls inters locals line last =
    rw (
      flat_map-append ended (shared ++ rolls ++ inters ++ locals) (line ∷ last ∷ []),
      flat_map-append ended (shared ++ rolls ++ inters) locals,
      flat_map-append ended (shared ++ rolls) inters,
      flat_map-append ended shared rolls,
    )
    (let front = text_of shared ++ text_of rolls ++ text_of inters ++ text_of locals in
    append_assoc front (ended line) (ended last) ∙ ap (λ end. front ++ (ended line ++ end)) (sym (append-nil (ended last))))

-- a block whose pieces were written one after another
pub block_put : (shared rolls inters locals : List (List ℕ)) (line last a b c d e f g : List ℕ)
    → a ≡ [] → b ≡ a ++ text_of shared → c ≡ b ++ text_of rolls → d ≡ c ++ text_of inters → e ≡ d ++ text_of locals → f ≡ e ++ ended line
    → g ≡ f ++ ended last → g ≡ text_of (shared ++ rolls ++ inters ++ locals ++ line ∷ last ∷ [])
block_put shared rolls inters locals line last a b c d e f g pa pb pc pd pe pf pg =
    rw (pg, pf, pe, pd, pc, pb, pa) (lists_of_lines shared rolls inters locals line last)

-- the digest of two texts that are known by equations
pub hashed_put : (front behind shared inters : List ℕ) → front ≡ shared → behind ≡ inters → sha256 (front ++ behind) ≡ sha256 (shared ++ inters)
hashed_put front behind shared inters first second =
    ap (λ text. sha256 (text ++ behind)) first ∙ ap (λ text. sha256 (shared ++ text)) second
