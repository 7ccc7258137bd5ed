use Rattle.std.proofs.Common.{rules, ◌≡◌, [], ◌∷◌, ◌++◌, OnOk, codes, decimal}
use Rattle.std.specs.String.{string_bytes}
use Rattle.std.proofs.lemmas.Result.{IfOk-equal}
use Rattle.cs_show.specs.Block.{digest_line}
use Rattle.cs_show.specs.Text.{ended}
use Rattle.census.proofs.SummaryText.{totals-put}
use Rattle.census.proofs.summary.put_totals.Goals as goal

pub returns : goal.returns
returns c =
    let t = c.args.totals.now in
    let text1 = string_bytes c.writeln.new.self in
    let text2 = string_bytes c.writeln-2.new.self in
    let text3 = string_bytes c.writeln-3.new.self in
    let text4 = string_bytes c.writeln-4.new.self in
    let text5 = string_bytes c.writeln-5.new.self in
    let text6 = string_bytes c.writeln-6.new.self in
    let epoch : text1 ≡ string_bytes c.args.out.now ++ ended (codes "epoch " ++ decimal t.epoch) = search rules in
    let members : text2 ≡ text1 ++ ended (codes "members " ++ decimal t.members) = search rules in
    let regions : text3 ≡ text2 ++ ended (codes "regions " ++ decimal t.regions) = search rules in
    let sent : text4 ≡ text3 ++ (codes "sent " ++ (decimal t.packets ++ 32 ∷ (decimal t.bytes ++ 10 ∷ []))) = search rules in
    let views : text5 ≡ text4 ++ ended (codes "views " ++ decimal t.views) = search rules in
    let agree : text6 ≡ text5 ++ ended (codes "agree " ++ decimal t.agree) = search rules in
    let digest : OnOk c.writeln-7.result (string_bytes c.writeln-7.new.self ≡ text6 ++ ended (digest_line t.digest)) = search rules in
    IfOk-equal _ _ _ _ digest (totals-put t (string_bytes c.args.out.now) text1 text2 text3 text4 text5 text6 epoch members regions sent views agree)
