-- Which tracks have an image.
use Rattle.std.proofs.Common.{◌≡◌, ℕ, ◌+◌, ◌<◌, ltb, List, ◌++◌, length, map, Some, None, vec_items, Option, Vec, ap, ◌∙◌, arith}
use Rattle.std.specs.declared.alloc.Global.{Global}
use Rattle.std.proofs.lemmas.List.{length-map}
use Rattle.std.proofs.lemmas.Bool.{cond-true, lt-ltb, ltb-true}
use Rattle.motor.specs.Kept.{Kept}
use Rattle.octets.specs.Each.{Told, each}
use Rattle.octets.specs.Frames.{head, rest}
use Rattle.octets.specs.Writes.{aspect_octet, run_octet, train_octets}
use Rattle.octets.proofs.Able.{each_only, each_there, points_written, trains_written}
use Rattle.octets.proofs.Inverses.{each_long}
use Rattle.octets.proofs.Records.{guarded}
use Rattle.image.specs.Image.{flat, image, then}
use Rattle.image.specs.Laws.{AnswersWhere, ImageWritten, Writable}
use Rattle.image.proofs.Cuts.{given}
use Rattle.image.proofs.Wholes.{image_by}

there : (k : Kept) → Writable k → (xs : List ℕ) × (image k ≡ Some xs)
there k w =
    let x = each_there points_written k.runs w.points in
    let y = map aspect_octet k.signals in
    let z = each_there trains_written k.trains w.trains in
    let l = each_long run_octet k.runs x.0 x.1 in
    let m = length-map k.signals aspect_octet in
    let n = length x.0 + length y + 64 in
    let s = w.short in
    let short : n < 65536 = omega arith in
    let r : rest (length x.0) (length y) ≡ Some n = cond-true (ltb n 65536) (Some n) None (lt-ltb n 65536 short) in (
      head n ++ (x.0 ++ (y ++ flat z.0)),
      image_by k.runs k.signals k.trains x.0 z.0 x.1 z.1 ∙ ap (λ o. then o (λ m. Some (head m ++ (x.0 ++ (y ++ flat z.0))))) r,
    )

only : (xs : List ℕ) (k : Kept) → image k ≡ Some xs → Writable k
only xs k e =
    let x = given (each run_octet k.runs) _ xs e in
    let z = given (each train_octets k.trains) _ xs x.2 in
    let w = given (rest (length x.0) (length (map aspect_octet k.signals))) _ xs z.2 in
    let l = each_long run_octet k.runs x.0 x.1 in
    let m = length-map k.signals aspect_octet in
    let n = length x.0 + length (map aspect_octet k.signals) + 64 in
    let short = ltb-true n 65536 (guarded (ltb n 65536) (Some n) w.0 w.1).0 in
    record { points = each_only points_written x.0 k.runs x.1; trains = each_only trains_written z.0 k.trains z.1; short = omega (arith, short, l, m) }

pub image_written : ImageWritten
image_written = record { there = there; only = only }

-- so of what is answered
pub answers_where : (o : Option (Vec ℕ Global)) (k : Kept) → Told o (image k) → AnswersWhere o k
answers_where None k e = λ w. let t = there k w in grind arith
answers_where (Some v) k e = only (vec_items v) k e
