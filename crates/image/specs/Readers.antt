-- What a reader means, and what reading answers.
use Rattle.std.specs.Prelude.{◌≡◌, ℕ, List, Ok, Err, Result, ◌≢◌}
use Rattle.access.specs.declared.refusals.Refusal.{Refusal}
use Rattle.access.specs.Codes.{code}
use Rattle.access.specs.Lists.{Lists}
use Rattle.catalogue.specs.declared.names.ListName.{ListName}
use Rattle.catalogue.specs.Sound.{Sound, Kept}
use Rattle.image.specs.declared.images.Image.{Image}
use Rattle.image.specs.Encoding.{encode, body_of}
use Rattle.image.specs.Reading.{read_lists, lists_in, body_in}
use Rattle.image.specs.Causes.{Cause}

-- the lists that a reader's bytes read as
abbrev pub image_lists : Image → Lists
image_lists i = lists_in i.bytes.now

-- a reader of these bytes: they read as its lists, which a book may hold, and whose image they are and that of no others
pub record Reads (i : Image) (bytes : List ℕ) : Type 0 where
  pub place : i.bytes.now ≡ bytes
  pub lists : read_lists bytes ≡ Ok (image_lists i)
  pub kept : Kept (image_lists i)
  pub sound : Sound (image_lists i)
  pub image : encode (image_lists i) ≡ bytes
  pub only : (l : Lists) → Kept l → encode l ≡ bytes → l ≡ image_lists i

-- bytes that no book writes, and their first fault
pub record Fails (refusal : Refusal) (bytes : List ℕ) : Type 0 where
  pub first : read_lists bytes ≡ Err (code refusal)
  pub cause : Cause bytes (code refusal)
  pub unwritten : (l : Lists) → Kept l → encode l ≢ bytes

-- reading gives a reader exactly where some book writes the bytes, else the first fault
abbrev pub ReadAs : Result Image Refusal → List ℕ → Type 0
ReadAs (Ok i) bytes = Reads i bytes
ReadAs (Err refusal) bytes = Fails refusal bytes

-- a list's body stands at its place among the bytes, and is the bytes of its records
pub record BodyAt (p : ListName) (bytes : List ℕ) (l : Lists) (body : List ℕ) : Type 0 where
  pub place : body ≡ body_in p bytes
  pub content : body ≡ body_of l p
