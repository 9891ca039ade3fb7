-- The status and the word of each refusal.
use Rattle.std.specs.Prelude.{ℕ, List, codes}
use Rattle.http_model.specs.declared.head_refusal.HeadRefusal.{HeadRefusal}
use Rattle.http_model.specs.declared.head_refusal.HeadRefusal.TheVariants.{HeadTooLarge, BadHead, TooManyHeaders, TransferEncoding, BadLength, NoLength, BodyTooLarge}

abbrev pub status_of : HeadRefusal → ℕ
status_of HeadTooLarge = 431
status_of BadHead = 400
status_of TooManyHeaders = 431
status_of TransferEncoding = 501
status_of BadLength = 400
status_of NoLength = 411
status_of BodyTooLarge = 413

abbrev pub code_of : HeadRefusal → List ℕ
code_of HeadTooLarge = codes "head-too-large"
code_of BadHead = codes "bad-head"
code_of TooManyHeaders = codes "too-many-headers"
code_of TransferEncoding = codes "transfer-encoding"
code_of BadLength = codes "bad-length"
code_of NoLength = codes "no-length"
code_of BodyTooLarge = codes "body-too-large"
