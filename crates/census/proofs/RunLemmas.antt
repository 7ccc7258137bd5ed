-- What a run writes, bit by bit.
use Rattle.std.proofs.Common.{◌≡◌, ℕ, ◌-◌, List, [], ◌++◌, length, take, drop, Option, Some, None, IfSome}
use Rattle.std.proofs.Common.{refl, sym, ap, ◌∙◌, append_assoc, subst}
use Rattle.std.proofs.lemmas.List.{append-nil, take_rest, take-append-drop}
use Rattle.census.specs.declared.status.Status.{Status}
use Rattle.census.specs.declared.status.Status.TheVariants.{Done, Usage, Script, Limit}
use Rattle.census.specs.Streams.{Appends}
use Rattle.census.specs.Run.{WritesFront, WritesUpTo}

-- nothing was written
pub Appends-nothing : (before : Option (List ℕ)) → Appends before before []
Appends-nothing None = tt
Appends-nothing (Some written) = ap Some (sym (append-nil written))

-- one piece was written behind another
pub Appends-more : (before mid after : Option (List ℕ)) (a b : List ℕ) → Appends before mid a → Appends mid after b
    → Appends before after (a ++ b)
Appends-more None mid after a b first second = tt
Appends-more (Some written) mid after a b first second =
    let P : Option (List ℕ) → Type 0 = λ m. Appends m after b in
    let later : after ≡ Some ((written ++ a) ++ b) = subst P first second in
    later ∙ ap Some (append_assoc written a b)

-- how far a text was written
pub record IsWrittenTo (text rest : List ℕ) (before now : Option (List ℕ)) : Type 0 where
  pub front : List ℕ
  pub whole : text ≡ front ++ rest
  pub written : Appends before now front

-- a piece from the front of the rest was written
pub IsWrittenTo-more : (text rest : List ℕ) (before mid after : Option (List ℕ)) (n : ℕ) → IsWrittenTo text rest before mid
    → Appends mid after (take n rest) → IsWrittenTo text (take (length rest - n) (drop n rest)) before after
IsWrittenTo-more text rest before mid after n so_far more = record {
  front = so_far.front ++ take n rest;
  whole = so_far.whole ∙ rw (take_rest rest n, append_assoc, take-append-drop n rest) refl;
  written = Appends-more before mid after so_far.front (take n rest) so_far.written more;
}

-- nothing is a front of each text
pub WritesFront-nothing : (text : List ℕ) (before : Option (List ℕ)) → WritesFront text before before
WritesFront-nothing text before = ([], text, refl, Appends-nothing before)

-- a front of a text is one of a longer text
pub WritesFront-longer : (text more : List ℕ) (before after : Option (List ℕ)) → WritesFront text before after
    → WritesFront (text ++ more) before after
WritesFront-longer text more before after (front, rest, whole, written) =
    (front, rest ++ more, ap (λ t. t ++ more) whole ∙ append_assoc front rest more, written)

-- a front of what comes behind a piece that was written
pub WritesFront-behind : (text front rest : List ℕ) (before mid after : Option (List ℕ)) → text ≡ front ++ rest → Appends before mid front
    → WritesFront rest mid after → WritesFront text before after
WritesFront-behind text front rest before mid after whole written (more, end, is, later) =
    (front ++ more, end, whole ∙ ap (λ t. front ++ t) is ∙ sym (append_assoc front more end), Appends-more before mid after front more written later)

-- all of what comes behind a piece that was written
all-behind : (status end later : Status) (text front rest : List ℕ) (before mid after : Option (List ℕ)) → end ≡ later
    → text ≡ front ++ rest → Appends before mid front → (status ≡ later) × Appends mid after rest → (status ≡ end) × Appends before after text
all-behind status end later text front rest before mid after same whole written (is, more) =
    (is ∙ sym same, subst (λ t. Appends before after t) (sym whole) (Appends-more before mid after front rest written more))

-- what a run writes behind a piece that was written
pub WritesUpTo-behind : (status end later : Status) (text front rest : List ℕ) (before mid after : Option (List ℕ)) → end ≡ later
    → text ≡ front ++ rest → Appends before mid front → WritesUpTo status later rest mid after → WritesUpTo status end text before after
WritesUpTo-behind Done end later text front rest before mid after same whole written more =
    all-behind Done end later text front rest before mid after same whole written more
WritesUpTo-behind Script end later text front rest before mid after same whole written more =
    all-behind Script end later text front rest before mid after same whole written more
WritesUpTo-behind Limit end later text front rest before mid after same whole written more =
    all-behind Limit end later text front rest before mid after same whole written more
WritesUpTo-behind Usage end later text front rest before mid after same whole written more = tt
WritesUpTo-behind status end later text front rest before mid after same whole written more =
    WritesFront-behind text front rest before mid after whole written more

-- what a run writes, where the end and the text are the same
pub WritesUpTo-same : (status end other : Status) (text same : List ℕ) (before after : Option (List ℕ)) → end ≡ other → text ≡ same
    → WritesUpTo status end text before after → WritesUpTo status other same before after
WritesUpTo-same status end other text same before after ends texts writes =
    subst (λ e. WritesUpTo status e same before after) ends (subst (λ t. WritesUpTo status end t before after) texts writes)

-- what holds of each value holds of the one that is there
pub IfSome-all : (o : Option (List ℕ)) (P : List ℕ → Type 0) → ((x : List ℕ) → P x) → IfSome o P
IfSome-all None P all = tt
IfSome-all (Some x) P all = all x
