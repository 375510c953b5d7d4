use Rattle.std.proofs.Common.{◌≡◌, ℕ, ◌-◌, List, [], ◌++◌, length, take, drop, min, arith, sym, ap, subst, ◌∙◌, append-nil}
use Rattle.std.proofs.lemmas.List.{take_all, take_at, drop_all}
use Rattle.std.proofs.lemmas.Result.{IfOk-weaker}
use Rattle.block_pool.specs.Pool.{HoldsUnder}
use Rattle.surrogate_rope.specs.Ropes.{RopeValue}
use Rattle.surrogate_rope.specs.Stored.{IsStoredRope}
use Rattle.surrogate_cache.proofs.keeping.load_at.Goals as goal

-- a buffer of their length, into which octets are read, has these octets
read_whole : (octets old into now items : List ℕ) (len size count : ℕ) → len ≡ length octets → size ≡ len → length old ≡ size → count ≡ min (length old) (length octets - 0)
    → into ≡ take count octets ++ drop count old → now ≡ take size (into ++ drop (length into) items) → now ≡ octets
read_whole octets old into now items len size count len_is size_is old_is count_is into_is now_is =
    let all : take count octets ≡ octets = take_all count octets (omega arith) in
    let none : drop count old ≡ [] = drop_all count old (omega arith) in
    let whole : into ≡ octets = into_is ∙ ap (λ (front : List ℕ). front ++ drop count old) all ∙ ap (λ (back : List ℕ). octets ++ back) none ∙ append-nil octets in
    now_is ∙ ap (λ (l : List ℕ). take size (l ++ drop (length l) items)) whole ∙ take_at octets (drop (length octets) items) size (omega arith)

pub load-requires : goal.load-requires
load-requires c =
    let is = read_whole c.requires.0 c.deref_mut.result.now c.read.new.into c.deref.result.now c.in_ok-stored.stored.items c.len.result c.in_ok-stored.stored.len c.read.result
    (c.len.ensures c.requires.0 c.requires.1) c.in_ok-stored.ensures.len c.deref_mut.ensures.len (c.read.ensures.count c.requires.0 c.requires.1)
    (c.read.ensures.octets c.requires.0 c.requires.1) c.deref.ensures.value in
    (c.requires.2.0, subst (λ (octets : List ℕ). IsStoredRope octets c.requires.2.0) (sym is) c.requires.2.1)

pub returns : goal.returns
returns c =
    IfOk-weaker c.load.result (λ (made : RopeValue). (rope : RopeValue) → IsStoredRope c.deref.result.now rope → made ≡ rope)
    (λ (made : RopeValue). (stored : List ℕ) (rope : RopeValue) → HoldsUnder c.args.pool.now c.args.place stored → IsStoredRope stored rope → made ≡ rope)
    (λ made loads stored rope holds form.
    let is = read_whole stored c.deref_mut.result.now c.read.new.into c.deref.result.now c.in_ok-stored.stored.items c.len.result c.in_ok-stored.stored.len c.read.result
    (c.len.ensures stored holds) c.in_ok-stored.ensures.len c.deref_mut.ensures.len (c.read.ensures.count stored holds) (c.read.ensures.octets stored holds) c.deref.ensures.value in
    loads rope (subst (λ (octets : List ℕ). IsStoredRope octets rope) (sym is) form))
    c.load.ensures
