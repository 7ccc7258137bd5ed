-- The lines of what was sent: some behind others are numbered on.
use Rattle.std.proofs.Common.{◌≡◌, ℕ, ◌+◌, List, [], ◌∷◌, ◌++◌, length, map, refl, ap, ◌∙◌, arith}
use Rattle.std.proofs.lemmas.List.Concat.{flat_map-append}
use Rattle.cs_base.specs.Address.{Address}
use Rattle.cs_packet.specs.declared.packet.Packet.{Packet}
use Rattle.cs_machine.specs.Lines.{numbered, packet_line, packet_lines}
use Rattle.cs_show.specs.Text.{ended, text_of}
use Rattle.cs_world.specs.Posting.{sent_lines}
use Rattle.cs_world.specs.declared.telling.Telling.TheVariants.{Names}

-- what stands behind others has the numbers behind theirs
numbered-append : {T : Type 0} (line : ℕ → T → List ℕ) (number : ℕ) (xs ys : List T)
    → numbered line number (xs ++ ys) ≡ numbered line number xs ++ numbered line (number + length xs) ys
numbered-append line number [] ys = ap (λ n. numbered line n ys) (omega arith)
numbered-append line number (x ∷ xs) ys =
    ap (λ lines. line number x ∷ lines)
    (numbered-append line (number + 1) xs ys ∙ ap (λ n. numbered line (number + 1) xs ++ numbered line n ys) (omega arith))

-- the same as text
pub numbered_text-append : {T : Type 0} (line : ℕ → T → List ℕ) (number : ℕ) (xs ys : List T)
    → text_of (numbered line number (xs ++ ys)) ≡ text_of (numbered line number xs) ++ text_of (numbered line (number + length xs) ys)
numbered_text-append line number xs ys =
    ap text_of (numbered-append line number xs ys) ∙ flat_map-append ended (numbered line number xs) (numbered line (number + length xs) ys)

-- packets that are told by what they say have the lines of packets
pub lines-named : (number : ℕ) (sends : List (Address × Packet))
    → sent_lines Names number sends ≡ packet_lines number (map (λ (send : Address × Packet). send.1) sends)
lines-named number [] = refl
lines-named number (send ∷ sends) = ap (λ lines. packet_line number send.1 ∷ lines) (lines-named (number + 1) sends)
