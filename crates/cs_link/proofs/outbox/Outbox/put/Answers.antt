use Rattle.std.proofs.Common.{◌≡◌, ◌∷◌, [], ◌++◌, ◌∙◌, ap, sym, subst}
use Rattle.cs_link.specs.Sent.{bytes_of, datagrams}
use Rattle.cs_link.specs.declared.post.Post.{Post}
use Rattle.cs_link.proofs.Sent.{all-put}
use Rattle.cs_link.proofs.outbox.Outbox.put.Goals as goal

-- the bytes stand behind those in the room, or are shared
pub returns-clause-sent : goal.returns-clause-sent
returns-clause-sent c =
    let old = c.args.self.now in
    let post : Post = record { to = c.args.to; bytes = c.store-bytes.result } in
    let behind = c.store-bytes.ensures.behind in
    let put = all-put old.posts.items post old.room.items behind.0 old.within in
    let its = ap (λ bytes. datagrams old.posts.items old.room.items ++ (post.to, bytes) ∷ []) c.store-bytes.ensures.bytes in
    rw c.push_reserved.ensures.items (
    subst (λ room. datagrams (old.posts.items ++ post ∷ []) room ≡ datagrams old.posts.items old.room.items ++ (post.to, bytes_of room post.bytes) ∷ [])
    (sym behind.1) put ∙ its)
