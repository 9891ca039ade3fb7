use Rattle.std.proofs.Common.{◌≡◌, ◌-◌, ◌++◌, length, take, subst, arith, rules}
use Rattle.std.proofs.lemmas.List.{append_assoc, length-take-le}
use Rattle.blob_disk.proofs.Clients.{kept_then}
use Rattle.repo_journal.proofs.Walks.{leaves_walk, walk_then}
use Rattle.object_id.specs.Hashing.{HasFed}
use Rattle.content_pieces.specs.Joining.{IsReadAt}
use Rattle.content_pieces.proofs.Blocks.{read_on, one_read}
use Rattle.content_pieces.proofs.feeding.feed.Goals as goal

pub returns-in_err-read-clause-kept : goal.returns-in_err-read-clause-kept
returns-in_err-read-clause-kept g c = kept_then _ _ _ c.loop-left.invariant.walked.kept c.read.ensures.kept

pub returns-in_err-read-clause-time : goal.returns-in_err-read-clause-time
returns-in_err-read-clause-time g c = leaves_walk _ _ _ c.loop-left.invariant.walked c.read.ensures.looked c.read.ensures.time

pub loop-left-preserved : goal.loop-left-preserved
loop-left-preserved g c =
    let j = c.args.journal.now in
    let m = g.D.Disk.meaning c.args.disk.now in
    let p = c.args.piece.now in
    let walked = c.loop-left.invariant.walked in
    let read = c.loop-left.invariant.read in
    let n = p.length - c.loop-left.left in
    let count = c.min-count.result in
    let at_is = c.loop-left.invariant.at_is in
    let few = c.loop-left.invariant.few in
    let within = c.requires.within in
    let size : length (take count c.loop-left.block) ≡ count = length-take-le count c.loop-left.block (let long = c.min-count.array_long in let least = c.min-count.ensures in omega arith) in
    let block = one_read j m (g.D.Disk.meaning c.loop-left.disk) c.loop-left.at count (take count c.loop-left.block) c.read.new.buf walked (g.met.D.Disk.sound c.loop-left.disk) size c.read.auto.buf (search rules)
    (c.in_ok-read.ensures.bytes) (c.read.ensures.waiting) (λ inside. (let apart = within.apart in omega arith)) in
    record {
      at_is = omega arith;
      few = omega arith;
      walked = walk_then _ _ _ walked c.read.ensures.looked c.read.ensures.kept c.read.ensures.time c.in_ok-read.ensures.faults;
      read = record {
        bytes = read.bytes ++ c.read.new.buf;
        is_read = subst (λ k. IsReadAt j m p.at k (read.bytes ++ c.read.new.buf)) (omega arith) (read_on j m p.at n count read.bytes c.read.new.buf (λ inside. (let apart = within.apart inside in omega arith)) (omega arith) read.is_read (subst (λ at. IsReadAt j m at count c.read.new.buf) at_is block));
        own_is = c.feed.ensures read.bytes read.own_is;
        joined_is = λ fed h. subst (λ bytes. HasFed c.feed-in-loop-left.new.self bytes) (append_assoc fed read.bytes c.read.new.buf) (c.feed-in-loop-left.ensures (fed ++ read.bytes) (read.joined_is fed h));
      };
    }
